-- What test answers, from what the checks find and from a test of the needed words.
-- From the laws of the reply by its first fault, and what a call without fault has.
use mathlib.Core.Path.{◌≡◌, sym, ap, ◌∙◌}
use mathlib.Core.Bool.{Bool}
use mathlib.Core.Option.{none}
use mathlib.Core.List.{List}
use Prim.Native.Nat.{ℕ, ◌*◌, ◌≤◌, ◌<◌}
use lib.ListN.{length, get_or}
use native.Mathlib.Omega.{arith}
use Rattle.model.specs.Limits.{word_bits, max_relations}
use Rattle.model.specs.Network.{total}
use Rattle.model.specs.Consistency.{is_consistent}
use Rattle.model.specs.LiveWords.{living, words_for}
use Rattle.model.specs.Request.{Instance, combinations_of}
use Rattle.model.specs.Fault.{first_fault, refusal, test_faults}
use Rattle.model.specs.Reply.{verdict_numbers, verdict_for, test_reply}
use Rattle.model.proofs.LiveWords.{living-same}
use Rattle.model.proofs.Reply.{test_reply-refused, test_reply-checked}
use Rattle.layout.specs.declared.Shape.{Shape}
use Rattle.layout.specs.Shape.{relations_of, instance_of}
use Rattle.layout.specs.Starts.{tuple_start}
use Rattle.layout.proofs.SoundStarts.{tuple-count, tuples-few}
use Rattle.layout.specs.Setting.{Setting, setting, network, instance_in, Sound}
use Rattle.request.specs.declared.checks.Opening.{Opening}
use Rattle.request.specs.Checks.{Opened, test_faults_on}
use Rattle.request.proofs.Openings.{test_faults-on, asked, tested-instance, tested-sound, tested-enough}
use Rattle.consistency.specs.Consistent.{all_consistent}

-- so many words are lent
module _ (S : Shape) (variables values : List ℕ) (m : ℕ) (members words : List ℕ) (lent : ℕ) (all : lent ≡ length words) (o : Opening) (opened : Opened o (test_faults_on (instance_of S variables values m members) lent) (relations_of S)) where
  abbrev I : Instance
  I = instance_of S variables values m members

  -- the number answered is that of the first fault of the words lent
  fault : o.fault ≡ refusal (first_fault (test_faults I words))
  fault = opened.fault ∙ ap (λ (n : ℕ). refusal (first_fault (test_faults_on I n))) all ∙ ap (λ fs. refusal (first_fault fs)) (test_faults-on I words)

  pub tested-refused : (o.fault ≡ 0 → ⊥) → (2, o.fault) ≡ test_reply I words
  tested-refused d = sym (test_reply-refused I words o.fault fault d)

  module _ (z : o.fault ≡ 0) where
    -- the lists with the starts found
    abbrev pub given : Setting
    given = asked S variables values m members lent o z

    pub given-sound : Sound given
    given-sound = tested-sound S variables values m members lent o z opened

    pub given-enough : total (network given) ≤ word_bits * lent
    given-enough = tested-enough S variables values m members lent o z opened

    module _ (tuples needed : ℕ) (counted : tuples ≡ tuple_start o.starts max_relations) (sized : needed ≡ words_for tuples) where
      tuples-are : tuples ≡ total (network given)
      tuples-are = counted ∙ tuple-count given-sound.laid.framed

      -- so many words are needed
      pub needed-few : (needed ≤ 64) × (needed ≤ length words)
      needed-few = (omega (arith, sized, tuples-are, tuples-few given-sound.laid.framed), omega (arith, sized, tuples-are, given-enough, all))

      -- the same tuples live in an array that begins with the needed words
      pub tested-reply : (array : List ℕ) → ((i : ℕ) → i < needed → get_or array i 0 ≡ get_or words i 0) → (wide : ℕ) → wide ≡ m → (b : Bool) → b ≡ all_consistent (setting (λ xs. xs) variables values o.starts members wide) array → verdict_numbers (verdict_for none b) ≡ test_reply I words
      tested-reply array same wide wide-is b e =
          let enough : total (network given) ≤ word_bits * needed = omega (arith, sized, tuples-are) in
          let decided =
          e
          ∙ ap (λ (n : ℕ). all_consistent (setting (λ xs. xs) variables values o.starts members n) array) wide-is
          ∙ ap (is_consistent (network given) (combinations_of (instance_in given))) (living-same (total (network given)) needed array words enough same)
          ∙ ap (λ (J : Instance). is_consistent J.network (combinations_of J) (living (total J.network) words)) (tested-instance S variables values m members lent o z opened) in
          ap (λ (x : Bool). verdict_numbers (verdict_for none x)) decided ∙ sym (test_reply-checked I words (sym z ∙ fault))
