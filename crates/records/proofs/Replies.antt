-- What a change call replies to the parts of the records it replies to the records, once the counts are written back: up to 64 records
-- have the counts of their parts, and more are refused whatever their counts. From the laws of records taken apart and of counts written.
use mathlib.Core.Path.{◌≡◌, refl, sym, ◌∙◌, ap, subst}
use mathlib.Core.Bool.{Bool, true, false, not, cond}
use mathlib.Core.Option.{Option}
use mathlib.Core.List.{List}
use Prim.Native.Nat.{ℕ, ◌≤◌, ◌<◌}
use native.Mathlib.Decide.{dec_le}
use native.Mathlib.Omega.{arith}
use lib.Dec.{leb, eqb}
use lib.ListN.{length, drop, length-map}
use borrow.Author.Tests.{leb-true, eqb-true}
use Rattle.model.specs.declared.Record.{Record}
use Rattle.model.specs.Limits.{max_relations}
use Rattle.model.specs.Fault.{within, faults, faults_on, list_faults}
use Rattle.model.specs.Request.{Change, Request}
use Rattle.model.specs.Reply.{Reply, request, refused, reply_to, reply, Keeps}
use Rattle.model.proofs.Bools.{and_right, false-intro}
use Rattle.model.proofs.Fault.{fault-here}
use Rattle.model.proofs.Reply.{reply-kept}
use Rattle.layout.specs.Shape.{padded, shape_of, instance_of}
use Rattle.layout.proofs.Records.{reply-shape_of}
use Rattle.encoding.specs.Packed.{unpacked, replied_in}
use Rattle.records.specs.declared.Parts.{Parts}
use Rattle.records.specs.declared.Done.{Done}
use Rattle.records.specs.Records.{relation_in, live_at, relations_in, live_in, with_live, record_instance, lesser, parts_of}
use Rattle.records.specs.Packed.{counts_of, written_for, counts_to_write}
use Rattle.records.proofs.Padded.{padded-length, padded-whole, padded-padded}
use Rattle.records.proofs.Written.{with_live-none, live_in-with_live, with_live-own}

-- ---- More relations than there may be

many-refused : (q : Request) → max_relations < length q.given.network.relations → reply q ≡ refused 2 q
unfolding reply faults faults_on list_faults
many-refused q h =
    let n = length q.given.network.relations in
    ap (λ (o : Option ℕ). reply_to o q)
    (fault-here (2, not (within 1 max_relations n)) (drop 1 (faults q)) (ap not (false-intro (within 1 max_relations n) (λ e. omega (arith, h, leb-true n max_relations (and_right (leb 1 n) (leb n max_relations) e))))))

-- ---- The reply

module _ (lent : List Record) (variables values : List ℕ) (m : ℕ) (members words supports : List ℕ) (change : Change) where
  abbrev parts : Parts
  parts = parts_of lent

  -- the counts of the parts
  abbrev given : List ℕ
  given = counts_of parts parts.live

  -- the request, with these counts
  abbrev asked : List ℕ → Request
  asked counts = request (record_instance lent variables values m members) words supports counts change

  count-is : parts.shape.count ≡ length lent
  unfolding shape_of
  count-is = length-map lent relation_in

  -- of up to 64 records they are the records' own
  given-few : length lent ≤ max_relations → given ≡ live_in lent
  given-few h =
      let few : lesser parts.shape.count ≤ max_relations = omega arith in
      let size : lesser parts.shape.count ≡ length (live_in lent) = omega (arith, h, count-is, length-map lent live_at) in
      padded-padded (lesser parts.shape.count) max_relations (live_in lent) few ∙ ap (λ (n : ℕ). padded n (live_in lent)) size ∙ padded-whole (live_in lent)

  module _ (d : Done) (words' supports' : List ℕ)
      (kept : Keeps (request (instance_of parts.shape variables values m members) words supports given change) (replied_in d.answer words' supports' (counts_of parts d.live)))
      (size : d.written ≡ written_for (unpacked d.answer) (lesser parts.shape.count)) where
    -- the records at the end
    abbrev left : List Record
    left = with_live lent (counts_to_write d)

    -- what is to be shown
    abbrev Kept : Type 0
    Kept = Keeps (asked (live_in lent)) (replied_in d.answer words' supports' (live_in left)) × (left ≡ with_live lent (live_in left))

    replies : replied_in d.answer words' supports' (counts_of parts d.live) ≡ reply (asked given)
    replies = kept ∙ reply-shape_of (relations_in lent) variables values m members words supports given change

    -- a refusal writes nothing
    unwritten : (unpacked d.answer).kind ≡ 2 → left ≡ lent
    unfolding padded
    unwritten e =
        let none : d.written ≡ 0 = size ∙ ap (λ (k : ℕ). cond (eqb k 2) 0 (lesser parts.shape.count)) e in
        ap (λ (n : ℕ). with_live lent (padded (lesser n) d.live)) none ∙ with_live-none lent

    own : left ≡ lent → left ≡ with_live lent (live_in left)
    own e = e ∙ sym (with_live-own lent) ∙ ap (λ (Rs : List Record). with_live lent (live_in Rs)) (sym e)

    refusing : (f : ℕ) → replied_in d.answer words' supports' (counts_of parts d.live) ≡ refused f (asked given) → left ≡ lent → replied_in d.answer words' supports' (live_in left) ≡ refused f (asked (live_in lent))
    refusing f e same = λ j. record { answer = (e j).answer; words = (e j).words; supports = (e j).supports; counts = live_in (same j) }

    -- more than 64 records
    many : max_relations < length lent → Kept
    many h =
        let long : max_relations < length (relations_in lent) = omega (arith, h, length-map lent relation_in) in
        let e : replied_in d.answer words' supports' (counts_of parts d.live) ≡ refused 2 (asked given) = replies ∙ many-refused (asked given) long in
        let same : left ≡ lent = unwritten (ap (λ (p : Reply). p.answer.kind) e) in
        (refusing 2 e same ∙ sym (many-refused (asked (live_in lent)) long), own same)

    -- the counts in the records are those that the parts have in the end
    few : length lent ≤ max_relations → live_in left ≡ counts_of parts d.live → left ≡ with_live lent (live_in left) → Kept
    few h e own' =
        (ap (replied_in d.answer words' supports') e ∙ replies ∙ ap (λ (counts : List ℕ). reply (asked counts)) (given-few h), own')

    few-cases : length lent ≤ max_relations → (x : Bool) → eqb (unpacked d.answer).kind 2 ≡ x → Kept
    few-cases h true e =
        let two : (unpacked d.answer).kind ≡ 2 = eqb-true (unpacked d.answer).kind 2 e in
        let same : left ≡ lent = unwritten two in
        let refusal : (reply (asked given)).answer.kind ≡ 2 = sym (ap (λ (p : Reply). p.answer.kind) replies) ∙ two in
        few h (ap live_in same ∙ sym (given-few h) ∙ sym (reply-kept (asked given) refusal).2 ∙ sym (ap (λ (p : Reply). p.counts) replies)) (own same)
    few-cases h false e =
        let n = lesser parts.shape.count in
        let all : d.written ≡ n = size ∙ ap (λ (b : Bool). cond b 0 n) e in
        let bound : lesser d.written ≡ n = omega (arith, all) in
        let counts : counts_to_write d ≡ counts_of parts d.live = ap (λ (k : ℕ). padded k d.live) bound in
        let enough : length (counts_to_write d) ≡ length lent = omega (arith, h, count-is, bound, padded-length (lesser d.written) d.live) in
        let back : live_in left ≡ counts_to_write d = live_in-with_live lent (counts_to_write d) enough in
        few h (back ∙ counts) (ap (with_live lent) (sym back))

    cases : Dec (length lent ≤ max_relations) → Kept
    cases (yes h) = few-cases h (eqb (unpacked d.answer).kind 2) refl
    cases (no h) = many (omega (arith, h))

    parts-reply : Kept
    parts-reply = cases (dec_le (length lent) max_relations)

    -- .. with its answer n, and its records at the end
    pub records-reply : (n : ℕ) (Rs : List Record) → n ≡ d.answer → Rs ≡ left → Keeps (asked (live_in lent)) (replied_in n words' supports' (live_in Rs)) × (Rs ≡ with_live lent (live_in Rs))
    records-reply n Rs e f =
        ((λ j. replied_in (e j) words' supports' (live_in (f j))) ∙ parts-reply.0, f ∙ parts-reply.1 ∙ ap (λ (Qs : List Record). with_live lent (live_in Qs)) (sym f))

-- ---- .. of the parts that the records were taken apart into

-- what a change call on the parts gives and leaves
abbrev pub PartsReply : List ℕ → List ℕ → ℕ → List ℕ → List ℕ → List ℕ → Change → Done → List ℕ → List ℕ → Parts → Type 0
PartsReply variables values m members words supports change d words' supports' P =
    Keeps (request (instance_of P.shape variables values m members) words supports (counts_of P P.live) change) (replied_in d.answer words' supports' (counts_of P d.live))
    × (d.written ≡ written_for (unpacked d.answer) (lesser P.shape.count))

pub replies-on : (lent : List Record) (variables values : List ℕ) (m : ℕ) (members words supports : List ℕ) (change : Change) (P : Parts) → P ≡ parts_of lent → (d : Done) (words' supports' : List ℕ) → PartsReply variables values m members words supports change d words' supports' P → (n : ℕ) (Rs : List Record) → (n ≡ d.answer) × (Rs ≡ with_live lent (counts_to_write d)) → Keeps (request (record_instance lent variables values m members) words supports (live_in lent) change) (replied_in n words' supports' (live_in Rs)) × (Rs ≡ with_live lent (live_in Rs))
replies-on lent variables values m members words supports change P e d words' supports' kept n Rs back =
    let told = subst (PartsReply variables values m members words supports change d words' supports') e kept in
    records-reply lent variables values m members words supports change d words' supports' told.0 told.1 n Rs back.0 back.1
