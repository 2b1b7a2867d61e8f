-- Answers packed: every reply's numbers fit their bits, so that they can be read back from the packed answer.
-- From the laws of replies.
use mathlib.Core.Logic.{⊎_elim}
use mathlib.Core.Path.{◌≡◌, refl, ap, ◌∙◌}
use mathlib.Core.Bool.{true, ◌&&◌, ◌||◌}
use mathlib.Core.Option.{Option, none, some}
use mathlib.Core.List.{List, [], ◌∷◌}
use Prim.Native.Nat.{ℕ, zero, suc, ◌+◌, ◌*◌, ◌/◌, ◌%◌, ◌≤◌, ◌<◌}
use native.Mathlib.Nat.{add_comm, mul_comm}
use native.Mathlib.Decide.{dec_lt}
use native.Mathlib.Omega.{arith}
use borrow.Author.Tests.{leb-true, ltb-true, eqb-true}
use lib.Arith.{digits_mod}
use lib.Dec.{leb, eqb}
use lib.ListN.{length, get_or}
use Rattle.model.specs.declared.Counts.{Counts}
use Rattle.model.specs.declared.Verdict.{Verdict}
use Rattle.model.specs.declared.Verdict.TheVariants.{No, Yes}
use Rattle.model.specs.declared.Verdict.TheVariants as verdict
use Rattle.model.specs.declared.Comparison.{Comparison}
use Rattle.model.specs.declared.Comparison.TheVariants.{Differ, Agree}
use Rattle.model.specs.declared.Comparison.TheVariants as comparison
use Rattle.model.specs.Limits.{max_relations}
use Rattle.model.specs.Lists.{sum, is_none}
use Rattle.model.specs.TupleSet.{TupleSet}
use Rattle.model.specs.Network.{Network, total}
use Rattle.model.specs.LiveWords.{living}
use Rattle.model.specs.Request.{Request}
use Rattle.model.specs.Fault.{published, first_fault, untrue, faults, accepts}
use Rattle.model.specs.Reply.{Numbers, Reply, answer_numbers, verdict_numbers, comparison_numbers, lowest_empty, answer_for, remainder, counts_for, leaving, accepted, reply_to, reply}
use Rattle.model.specs.declared.Enumeration.{Enumeration}
use Rattle.model.specs.Enumeration.{connected_combinations, enumeration_faults, enumeration_numbers, EnumerationReply, enumerated, enumeration_for, enumeration_reply}
use Rattle.model.proofs.Enumerated.{listed-few, enumeration-number}
use Rattle.model.proofs.Bools.{and_right, or_cases}
use Rattle.model.proofs.TupleSet.{count-length}
use Rattle.model.proofs.LiveWords.{living-length}
use Rattle.model.proofs.Fault.{faultless, accepts-network, refusal-within}
use Rattle.model.proofs.Reply.{answer-emptied, answer-settled, answer_for-kind, leaving-sum}
use Rattle.model.proofs.Mission.{filtering}
use Rattle.encoding.specs.Packed.{packed_counts, packed, unpacked, enumerated_in, packed_pair, pair_in}

-- The numbers fit their bits.
pub record Fits (a : Numbers) : Type 0 where
  pub kind : a.kind < 256
  pub subject : a.subject < 256
  pub left : a.left < 65536
  pub withdrawn : a.withdrawn < 65536
  pub deleted : a.deleted < 65536

-- the lowest bits of a number
low_bits : (b n x y : ℕ) → n ≡ x + b * y → x < b → n % b ≡ x
low_bits b n x y e h = ap (λ (k : ℕ). k % b) (e ∙ add_comm x (b * y) ∙ ap (λ (k : ℕ). k + x) (mul_comm b y)) ∙ digits_mod y h

-- numbers that fit are read back
pub unpacked-packed : (a : Numbers) → Fits a → unpacked (packed a) ≡ a
unfolding unpacked
unpacked-packed a f =
    let p = packed a in
    let from-subject : p / 256 ≡ a.subject + 256 * packed_counts a.left a.withdrawn a.deleted = omega (arith, f.kind) in
    let from-left : p / 65536 ≡ packed_counts a.left a.withdrawn a.deleted = omega (arith, f.kind, f.subject) in
    let from-withdrawn : p / 4294967296 ≡ a.withdrawn + 65536 * a.deleted = omega (arith, f.kind, f.subject, f.left) in
    let from-deleted : p / 281474976710656 ≡ a.deleted = omega (arith, f.kind, f.subject, f.left, f.withdrawn) in
    let k : p % 256 ≡ a.kind = omega (arith, f.kind) in
    let s : p / 256 % 256 ≡ a.subject = low_bits 256 (p / 256) a.subject (packed_counts a.left a.withdrawn a.deleted) from-subject f.subject in
    let l : p / 65536 % 65536 ≡ a.left = low_bits 65536 (p / 65536) a.left (a.withdrawn + 65536 * a.deleted) from-left f.left in
    let w : p / 4294967296 % 65536 ≡ a.withdrawn = low_bits 65536 (p / 4294967296) a.withdrawn a.deleted from-withdrawn f.withdrawn in
    let d : p / 281474976710656 % 65536 ≡ a.deleted = low_bits 65536 (p / 281474976710656) a.deleted 0 (omega (arith, from-deleted)) f.deleted in
    λ i. record { kind = k i; subject = s i; left = l i; withdrawn = w i; deleted = d i }

-- .. and so are those of test's and compare's answers
pub pair-back : (p : ℕ × ℕ) → p.0 < 256 → pair_in (packed_pair p) ≡ p
pair-back p h =
    let low : (p.0 + 256 * p.1) % 256 ≡ p.0 = omega arith in
    let high : (p.0 + 256 * p.1) / 256 ≡ p.1 = omega arith in
    λ i. (low i, high i)

pub verdict-back : (v : Verdict) → pair_in (packed_pair (verdict_numbers v)) ≡ verdict_numbers v
verdict-back No = refl
verdict-back Yes = refl
verdict-back (verdict.Refused f) = pair-back (2, f) (omega arith)

pub comparison-back : (a : Comparison) → pair_in (packed_pair (comparison_numbers a)) ≡ comparison_numbers a
comparison-back (Differ x) = pair-back (0, x) (omega arith)
comparison-back Agree = refl
comparison-back (comparison.Refused f) = pair-back (2, f) (omega arith)

-- ---- The numbers of a reply

at-most-sum : (xs : List ℕ) (i : ℕ) → get_or xs i 0 ≤ sum xs
at-most-sum [] i = omega arith
at-most-sum (x ∷ xs) zero = omega arith
at-most-sum (x ∷ xs) (suc i) = omega (arith, at-most-sum xs i)

-- a refusal number fits its byte
published-small : (n : ℕ) → published n ≡ true → n < 256
published-small n h =
    ⊎_elim
    (λ low. omega (arith, leb-true n 14 (and_right (leb 2 n) (leb n 14) low)))
    (λ late. ⊎_elim (λ e. omega (arith, eqb-true n 18 e)) (λ e. omega (arith, eqb-true n 19 e)) (or_cases (eqb n 18) (eqb n 19) late))
    (or_cases (leb 2 n && leb n 14) (eqb n 18 || eqb n 19) h)

-- an answer's subject is 64 or a relation's number
pub answer-subject : (N : Network) (L : TupleSet) (k : Counts) → length N.relations ≤ max_relations → Dec (lowest_empty N L < length N.relations) → (answer_numbers (answer_for N L k)).subject < 256
answer-subject N L k few (yes h) = omega (arith, h, few, ap (λ a. (answer_numbers a).subject) (answer-emptied N L k h))
answer-subject N L k few (no d) = omega (arith, ap (λ a. (answer_numbers a).subject) (answer-settled N L k (omega arith)))

module _ (q : Request) where
  fits-of : (o : Option ℕ) → first_fault (faults q) ≡ o → Fits (reply_to o q).answer
  unfolding accepted leaving accepts faults
  fits-of (some f) e =
      let small = published-small f (refusal-within q.given (length q.words) (length q.supports) (untrue q.given.network q.words q.counts) q.change f e) in
      record { kind = omega arith; subject = small; left = omega arith; withdrawn = omega arith; deleted = omega arith }
  fits-of none e =
      let I = q.given in
      let S = living (total I.network) q.words in
      let L = remainder I q.change S in
      let k = counts_for I q.change S in
      let ok = faultless I.network (accepts-network q (ap is_none e)) in
      let low = dec_lt (lowest_empty I.network L) (length I.network.relations) in
      let sum = leaving-sum I q.change S L q.words q.supports in
      let few = count-length S in
      let all = living-length (total I.network) q.words in
      record {
        kind = ⊎_elim (λ h. omega (arith, h)) (λ h. omega (arith, h)) (answer_for-kind I.network L k low);
        subject = answer-subject I.network L k ok.relations low;
        left = omega (arith, sum, few, all, ok.tuples);
        withdrawn = omega (arith, sum, few, all, ok.tuples);
        deleted = omega (arith, sum, few, all, ok.tuples);
      }

  pub reply-fits : Fits (reply q).answer
  unfolding reply
  reply-fits = fits-of (first_fault (faults q)) refl

  -- what the packed answer says is what the reply says
  pub reply-unpacked : unpacked (packed (reply q).answer) ≡ (reply q).answer
  reply-unpacked = unpacked-packed (reply q).answer reply-fits

  pub replied-subject : (r : Reply) → r ≡ reply q → r.answer.subject < 256
  replied-subject r e = omega (arith, ap (λ (s : Reply). s.answer.subject) e, reply-fits.subject)

  -- the live counts of an accepted call fit their 16 bits: each is at most the tuples left
  pub reply-counts-below : accepts q ≡ true → (i : ℕ) → get_or (reply q).counts i 0 < 65536
  reply-counts-below e i = omega (arith, at-most-sum (reply q).counts i, (filtering q e).counted.together, reply-fits.left)

-- ---- The numbers of the listing of combinations

module _ (N : Network) (m : ℕ) (list : List ℕ) where
  enumeration-fits-for : (o : Option ℕ) → first_fault (enumeration_faults N m (length list)) ≡ o → Fits (enumeration_for o (connected_combinations N m) m list).answer
  enumeration-fits-for none e =
      record { kind = omega arith; subject = omega arith; left = omega (arith, listed-few N m list e); withdrawn = omega arith; deleted = omega arith }
  enumeration-fits-for (some f) e =
      record { kind = omega arith; subject = omega (arith, ltb-true f 17 (enumeration-number N m list f e)); left = omega arith; withdrawn = omega arith; deleted = omega arith }

  pub enumeration-unpacked : unpacked (packed (enumeration_reply N m list).answer) ≡ (enumeration_reply N m list).answer
  unfolding enumeration_reply
  enumeration-unpacked = unpacked-packed _ (enumeration-fits-for (first_fault (enumeration_faults N m (length list))) refl)

  -- the packed answer of what keeps the contract
  pub enumerated-in : (a : Enumeration) (n : ℕ) (members : List ℕ) → enumerated a members ≡ enumeration_reply N m list → n ≡ packed (enumeration_numbers a) → enumerated_in n members ≡ enumeration_reply N m list
  enumerated-in a n members kept e =
      (λ i.
      record {
        answer = (ap unpacked (e ∙ ap (λ (p : EnumerationReply). packed p.answer) kept) ∙ enumeration-unpacked) i;
        members = (kept i).members;
      })
