-- What a reply that is not a refusal gives to print it: no network fault, enough live words, and lines that fit.
-- From the laws of replies, of faults, and of how long a listing is.
use mathlib.Core.Path.{◌≡◌, refl, sym, ◌∙◌, ap}
use mathlib.Core.Bool.{Bool, true, false}
use mathlib.Core.List.{List, map, map-map, map-id}
use Prim.Native.Nat.{ℕ, ◌≤◌}
use native.Mathlib.Omega.{arith}
use borrow.Author.Tests.{eq-eqb}
use lib.Dec.{eqb}
use lib.ListN.{length, take}
use Rattle.model.specs.declared.Answer.{Answer}
use Rattle.model.specs.Lists.{from}
use Rattle.model.specs.Network.{tuples_in, total}
use Rattle.model.specs.LiveWords.{living}
use Rattle.model.specs.Request.{filter, Request}
use Rattle.model.specs.Fault.{accepts}
use Rattle.model.specs.Text.{writable}
use Rattle.model.specs.Reply.{Reply, remainder, accepted, leaving, reply, request, replied}
use Rattle.model.proofs.Bools.{not-both}
use Rattle.model.proofs.Lists.{map-places}
use Rattle.model.proofs.LiveWords.{written-length}
use Rattle.model.proofs.Fault.{accepts-network, accepts-words}
use Rattle.model.proofs.Reply.{reply-accepted, reply-refused}
use Rattle.model.proofs.Listing.{tuple-lines-short}
use Rattle.layout.specs.declared.Shape.{Shape}
use Rattle.layout.specs.Shape.{record_at, relations_of, network_of, instance_of}
use Rattle.printing.specs.Lines.{is_refusal, Accepted}

-- a reply that is not of kind 2 is to a request without fault
kind-accepts : (q : Request) (b : Bool) → accepts q ≡ b → eqb (reply q).answer.kind 2 ≡ false → accepts q ≡ true
kind-accepts q true e k = e
kind-accepts q false e k =
    let r = reply-refused q e in
    absurd (not-both (eq-eqb _ _ (ap (λ (p : Reply). p.answer.kind) r.1)) k)

-- an accepted call leaves as many words as it was lent
accepted-words : (q : Request) → length (accepted q).words ≡ length q.words
unfolding accepted leaving
accepted-words q =
    let I = q.given in
    written-length (total I.network) (remainder I q.change (living (total I.network) q.words)) q.words

module _ (S : Shape) (variables values : List ℕ) (m : ℕ) (members words supports counts : List ℕ) where
  abbrev q : Request
  q = request (instance_of S variables values m members) words supports counts filter

  pub reply-printable : writable (instance_of S variables values m members) ≡ true → (a : Answer) (left numbers tally : List ℕ) → replied a left numbers tally ≡ reply q → is_refusal a ≡ false → Accepted (network_of S variables values) left
  reply-printable w a left numbers tally e k =
      let fine = kind-accepts q (accepts q) refl (sym (ap (λ (p : Reply). eqb p.answer.kind 2) e) ∙ k) in
      let long : length left ≡ length words = ap (λ (p : Reply). length p.words) (e ∙ reply-accepted q fine) ∙ accepted-words q in
      record {
        faultless = accepts-network q fine;
        enough = omega (arith, accepts-words q fine);
        short = omega (arith, tuple-lines-short (instance_of S variables values m members) left w);
      }

-- where every tuple lives, the counts are the tuple counts of the records
pub all-counted : (S : Shape) → S.count ≤ length S.tuples → take S.count S.tuples ≡ map tuples_in (relations_of S)
unfolding relations_of
all-counted S few =
    sym (map-id (take S.count S.tuples))
    ∙ sym (map-places (λ (n : ℕ). n) S.tuples S.count 0 (omega arith))
    ∙ sym (map-map tuples_in (record_at S) (from 0 S.count))
