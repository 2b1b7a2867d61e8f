-- Laws of the filter's end: where no pair waits, what lives is what filtering leaves, and with the dead tuples' numbers
-- blanked the support list is that of the definition. From the model's laws of filtering and of the support list.
use mathlib.Core.Path.{◌≡◌, sym, ◌∙◌, ap, subst}
use mathlib.Core.Bool.{Bool, true, false, cond}
use mathlib.Core.List.{List, ◌++◌, Memᴰ}
use Prim.Native.Nat.{ℕ, ◌+◌, ◌-◌, ◌≤◌, ◌<◌}
use native.Mathlib.Omega.{arith}
use lib.ListN.{length, drop, replicate, take-append-drop}
use Rattle.model.specs.Limits.{max_pairs, no_support}
use Rattle.model.specs.TupleSet.{TupleSet, has}
use Rattle.model.specs.Network.{Network, size, total, first_id, relation_of}
use Rattle.model.specs.Combination.{Combination}
use Rattle.model.specs.Support.{first_support}
use Rattle.model.specs.Consistency.{filtered, support_list, needed, support_start}
use Rattle.model.specs.LiveWords.{is_live, next_live, written}
use Rattle.model.proofs.TupleSet.{has-below}
use Rattle.model.proofs.Network.{index-bounds}
use Rattle.model.proofs.Combination.{pair_of}
use Rattle.model.proofs.Support.{Supported, first_support-dead}
use Rattle.model.proofs.LiveWords.{living-length, living-has, next_live-first}
use Rattle.model.proofs.Work.{filtered-done}
use Rattle.model.proofs.SupportList.{needed-pairs, support_list-ext}
use Rattle.sweeping.specs.Shrunk.{Shrunk}
use Rattle.layout.specs.Setting.{Setting, network, listed, Sound, live_in}
use Rattle.layout.specs.Pairs.{combination_of, size_of, tuple_id, held}
use Rattle.engine.specs.Work.{Rest}
use Rattle.worklist.specs.Supports.{Done}
use Rattle.engine.specs.Blank.{Blanked}
use Rattle.layout.proofs.Pairs.{combination-length}
use Rattle.layout.proofs.Pairs.{tuple-below}

-- ---- Where no pair waits

module _ (G : Setting) (sound : Sound G) (words numbers : List ℕ) where
  abbrev N : Network
  N = network G

  abbrev S : TupleSet
  S = live_in G words

  -- .. all pairs are done
  pub all_done : (queue : List ℕ) (pair : ℕ) → pair ≡ next_live queue 0 max_pairs → length G.members ≤ pair → Rest G queue words numbers (λ q. ⊥) → (q : ℕ) → q < length G.members → Done G words numbers q (size_of G q)
  all_done queue pair e past rest q h =
      let f = next_live-first queue 0 max_pairs (omega arith) in
      rest q h (f.none_before q (omega arith) (omega arith)) (λ x. x)

  module _ (done : (q : ℕ) → q < length G.members → Done G words numbers q (size_of G q)) where
    supported-all : (c : Combination) → Memᴰ c (listed G) → (h : ℕ) → has S h ≡ true → Memᴰ (relation_of N h) c → Supported N S c h
    supported-all c n h e k =
        let f = pair_of G.m G.members sound.paired.list.positive n k in
        let p = f.0 in
        let r = relation_of N h in
        let b = index-bounds N h (omega (arith, has-below S h e, living-length (total N) words)) in
        let x = h - first_id N r in
        let id : tuple_id G p x ≡ h = ap (λ (s : ℕ). first_id N s + x) f.3 ∙ omega arith in
        let d = done p f.1 x (omega (arith, ap (size N) f.3)) (ap (has S) id ∙ e) in
        subst (λ (d : Combination). Supported N S d h) f.2 (subst (Supported N S (combination_of G p)) id d.0)

    -- what lives is what filtering leaves
    pub settled : filtered N (listed G) S ≡ S
    settled = filtered-done N (listed G) S supported-all

    -- .. of what lived at the start
    module _ (words₀ : List ℕ) (shrunk : Shrunk G words₀ words) where
      pub left : S ≡ filtered N (listed G) (live_in G words₀)
      left = sym settled ∙ shrunk.same

      pub words-end : words ≡ written (total N) (filtered N (listed G) (live_in G words₀)) words₀
      words-end = shrunk.bits ∙ ap (λ (T : TupleSet). written (total N) T words₀) left

    -- with the dead tuples' numbers blanked
    module _ (final : List ℕ) (blanked : Blanked N G.m G.members (length G.members) words numbers final) where
      -- a tuple's numbers are its first support, be it live or dead
      held_first : (p x : ℕ) → p < length G.members → x < size_of G p → (b : Bool) → has S (tuple_id G p x) ≡ b → cond b (held G numbers p x) (replicate G.m no_support) ≡ first_support N S (combination_of G p) (tuple_id G p x)
      held_first p x h k true e = (done p h x k e).1
      held_first p x h k false e =
          sym (first_support-dead N S (combination_of G p) (tuple_id G p x) e ∙ ap (λ (n : ℕ). replicate n no_support) (combination-length sound.laid.framed sound.paired p h))

      final-held : (p x : ℕ) → p < length G.members → x < size_of G p → held G final p x ≡ first_support N S (combination_of G p) (tuple_id G p x)
      final-held p x h k =
          let g = tuple_id G p x in
          blanked.at_each p x h k ∙ held_first p x h k (is_live words g) (living-has (total N) words g (tuple-below sound p x h k))

      pub numbers-end : (numbers₀ : List ℕ) → drop (needed N (listed G)) numbers ≡ drop (needed N (listed G)) numbers₀ → final ≡ support_list N (listed G) S ++ drop (needed N (listed G)) numbers₀
      numbers-end numbers₀ beyond =
          let n = needed N (listed G) in
          let e : n ≡ support_start N G.m G.members (length G.members) = needed-pairs N S G.m G.members sound.paired.list.positive sound.paired.list.whole in
          sym (take-append-drop n final)
          ∙ ap (λ (xs : List ℕ). xs ++ drop n final) (support_list-ext N S G.m G.members final sound.paired.list.positive sound.paired.list.whole final-held)
          ∙ ap (λ (xs : List ℕ). support_list N (listed G) S ++ xs)
          (ap (λ (k : ℕ). drop k final) e ∙ blanked.after ∙ ap (λ (k : ℕ). drop k numbers) (sym e) ∙ beyond)
