-- The calls on decoded lists are those on the bytes' whole lists.
-- From the edges of replies, the laws of records taken apart, of entries, and of openings and plans.
use mathlib.Core.Path.{◌≡◌, sym, ap, ap₂, subst, subst₂, ◌∙◌}
use mathlib.Core.Bool.{Bool, true, false, cond}
use mathlib.Core.List.{List, ◌∷◌, ◌++◌}
use Prim.Native.Nat.{ℕ, ◌-◌, ◌*◌, ◌/◌, ◌≤◌, ◌<◌, min}
use native.Mathlib.Decide.{dec_lt}
use native.Mathlib.Omega.{arith}
use borrow.Author.Tests.{eq-eqb, ne_eqb}
use lib.Dec.{eqb}
use lib.ListN.{length, get_or, take, drop, replicate, length-replicate}
use lib.Seq.{take_all, length-take-le, get_or-take}
use Rattle.model.specs.declared.Answer.TheVariants.{Refused}
use Rattle.model.specs.Limits.{max_relations, word_bits}
use Rattle.model.specs.TupleSet.{count, without}
use Rattle.model.specs.Network.{Network, total}
use Rattle.model.specs.Consistency.{filtered, needed}
use Rattle.model.specs.LiveWords.{is_live, living, words_for}
use Rattle.model.specs.Request.{Change, Instance, combinations_of, Request}
use Rattle.model.specs.Fault.{first_fault, refusal, change_faults, untrue, list_faults, faults_on}
use Rattle.model.specs.Reply.{Numbers, Reply, answer_numbers, lowest_empty, leaving, reply, test_reply, compare_reply, request}
use Rattle.model.proofs.LiveWords.{living-take}
use Rattle.model.proofs.LiveCounts.{untrue-same}
use Rattle.model.proofs.Reply.{reply-fault, accepts-none, refused-not}
use Rattle.model.proofs.Edges.{reply-cut, test_reply-cut, compare_reply-cut}
use Rattle.layout.specs.declared.Shape.{Shape}
use Rattle.layout.specs.Shape.{shape_of, network_of, instance_of, relations_of}
use Rattle.layout.specs.Setting.{network, instance_in}
use Rattle.layout.specs.Starts.{tuple_start}
use Rattle.layout.proofs.SoundStarts.{tuple-count, tuples-few}
use Rattle.layout.proofs.Relations.{relation-count}
use Rattle.layout.proofs.Records.{reply-shape_of, test_reply-shape_of, compare_reply-shape_of}
use Rattle.wire.specs.Entries.{Bytes, entries, entries16, entries32, entries64, bytes, Filled}
use Rattle.wire.proofs.Entries.{entries-length, entries16-length, entries64-length, entries_below, entries-take, bytes-entries, bytes-append, bytes-behind}
use Rattle.request.specs.declared.checks.Opening.{Opening}
use Rattle.request.specs.declared.plan.Plan.{Plan}
use Rattle.request.specs.Answer.{Covered}
use Rattle.request.specs.Checks.{CountsChecked, Opened, test_faults_on}
use Rattle.request.specs.Plan.{setting_of, Planned, Opens}
use Rattle.request.proofs.Openings as openings
use Rattle.request.proofs.Openings.{opened-front, checked-tested, tested-instance, tested-sound, tested-enough, counted-opened}
use Rattle.changes.specs.Change.{changed}
use Rattle.changes.specs.Change as changes
use Rattle.changes.proofs.Changed.{planned-tally, planned-reply, changed-needed, changed-lengths}
use Rattle.encoding.specs.Records.{records, counts_in, with_counts}
use Rattle.encoding.specs.Packed.{packed, outcome, encoded, reply_bytes}
use Rattle.encoding.specs.Call.{ByteBook, byte_network, byte_instance}
use Rattle.encoding.proofs.Packed.{answer-subject}
use Rattle.byte_calls.specs.Planned.{over, written_over, request_in, WholeBytes, Decoded, PlannedOn, OpenedOn}

-- ---- Lists that are only read

-- the values for which there is room are all that there are, or one more than any accepted list has
pub enough-values : (room : ℕ) (codes : List ℕ) → (room ≤ 32769) × (min 32769 (length codes / 4) ≤ room) → take (length (replicate {A = ℕ} room 0)) (entries 4 (length codes / 4) codes) ≡ take 32769 (entries 4 (length codes / 4) codes)
enough-values room codes h = rw length-replicate (go (dec_lt room 32769))
  where
    l : length (entries 4 (length codes / 4) codes) ≡ length codes / 4
    l = entries-length 4 (length codes / 4) codes

    go : Dec (room < 32769) → take room (entries 4 (length codes / 4) codes) ≡ take 32769 (entries 4 (length codes / 4) codes)
    go (yes less) =
        take_all room (entries 4 (length codes / 4) codes) (omega (arith, l, h.0, h.1)) ∙ sym (take_all 32769 (entries 4 (length codes / 4) codes) (omega (arith, l, h.0, h.1)))
    go (no all) = let same : room ≡ 32769 = omega (arith, h.0) in rw same

module _ (sheets questions codes : List ℕ) (S : Shape) (Vs Ws : List ℕ) (es : S ≡ shape_of (records sheets)) (ev : Vs ≡ take 513 (entries 2 (length questions / 2) questions)) (ew : Ws ≡ take 32769 (entries 4 (length codes / 4) codes)) where
  module _ (m : ℕ) (combinations C : List ℕ) (ec : C ≡ take 1025 (entries 2 (length combinations / 2) combinations)) where
    abbrev B : ByteBook
    B = record { sheets = sheets; questions = questions; codes = codes; m = m; combinations = combinations }

    pub decoded-reply : (words numbers counts : List ℕ) (change : Change) → reply (request (instance_of S Vs Ws m C) words numbers counts change) ≡ reply (request (byte_instance B) words numbers counts change)
    unfolding entries16 entries32
    decoded-reply words numbers counts change =
        (λ i. reply (request (instance_of (es i) (ev i) (ew i) m (ec i)) words numbers counts change))
        ∙ reply-shape_of (records sheets) (take 513 (entries16 questions)) (take 32769 (entries32 codes)) m (take 1025 (entries16 combinations)) words numbers counts change
        ∙ sym (reply-cut (byte_instance B) words numbers counts change)

    pub decoded-test : (words : List ℕ) → test_reply (instance_of S Vs Ws m C) words ≡ test_reply (byte_instance B) words
    unfolding entries16 entries32
    decoded-test words =
        (λ i. test_reply (instance_of (es i) (ev i) (ew i) m (ec i)) words)
        ∙ test_reply-shape_of (records sheets) (take 513 (entries16 questions)) (take 32769 (entries32 codes)) m (take 1025 (entries16 combinations)) words
        ∙ sym (test_reply-cut (byte_instance B) words)

  pub decoded-compare : (a b : ℕ) → compare_reply (network_of S Vs Ws) a b ≡ compare_reply (byte_network sheets questions codes) a b
  unfolding entries16 entries32
  decoded-compare a b =
      (λ i. compare_reply (network_of (es i) (ev i) (ew i)) a b)
      ∙ compare_reply-shape_of (records sheets) (take 513 (entries16 questions)) (take 32769 (entries32 codes)) a b
      ∙ sym (compare_reply-cut (byte_network sheets questions codes) a b)

-- ---- Lists that are written

-- entries written over the first bytes of a list, which held the first of these and still holds the others
over-bytes : (k j : ℕ) (xs ys bs : List ℕ) → bytes k xs ≡ bs → length ys ≡ length (take j xs) → over k ys bs ≡ bytes k (ys ++ drop j xs)
over-bytes k j xs ys bs e l =
    ap (λ (n : ℕ). bytes k ys ++ drop (k * n) bs) l
    ∙ ap (λ (zs : List ℕ). bytes k ys ++ zs) (sym (bytes-behind k j xs bs e))
    ∙ sym (bytes-append k ys (drop j xs))

-- how many words are needed, of those lent
pub words-needed : (S : Shape) (variables values : List ℕ) (m : ℕ) (members : List ℕ) (lent : ℕ) (o : Opening) (none : o.fault ≡ 0) → Opened o (test_faults_on (instance_of S variables values m members) lent) (relations_of S) → (n w : ℕ) → n ≡ tuple_start o.starts max_relations → w ≡ words_for n
    → (total (network (openings.asked S variables values m members lent o none)) ≤ word_bits * w) × ((w ≤ 64) × (w ≤ lent))
words-needed S variables values m members lent o none opened n w counted each =
    let framed = (tested-sound S variables values m members lent o none opened).laid.framed in
    let count = counted ∙ tuple-count framed in
    let bits = tested-enough S variables values m members lent o none opened in
    (omega (arith, count, each), (omega (arith, count, each, tuples-few framed), omega (arith, count, each, bits)))

pub opened-needed : (S : Shape) (variables values : List ℕ) (m : ℕ) (members marks supports : List ℕ) (o : Opening) (none : o.fault ≡ 0) → OpenedOn o (instance_of S variables values m members) marks supports → (n w : ℕ) → n ≡ tuple_start o.starts max_relations → w ≡ words_for n
    → (total (network (openings.asked S variables values m members (length marks / 8) o none)) ≤ word_bits * w) × ((w ≤ 64) × (8 * w ≤ length marks))
opened-needed S variables values m members marks supports o none opened n w counted each =
    let words = words-needed S variables values m members (length marks / 8) o none (checked-tested S variables values m members (length marks / 8) o none (length supports / 2) opened) n w counted each in
    (words.0, (words.1.0, omega (arith, words.1.1)))

-- the needed words, decoded to the front of an array
module _ (w k : ℕ) (marks array : List ℕ) (filled : Filled 8 (entries 8) k (take (8 * w) marks) (replicate 64 0) array) (few : w ≤ 64) (inside : 8 * w ≤ length marks) where
  abbrev part : List ℕ
  part = take (8 * w) marks

  decoded-part : take k array ≡ entries 8 w part
  decoded-part =
      let all : length part / 8 ≡ w = omega (arith, length-take-le (8 * w) marks inside) in
      filled.held
      ∙ ap (λ (n : ℕ). take 64 (entries 8 n part)) all
      ∙ take_all 64 (entries 8 w part) (omega (arith, entries-length 8 w part))

  loaded-count : k ≡ w
  loaded-count = filled.count ∙ ap length decoded-part ∙ entries-length 8 w part

  pub loaded-room : w ≤ length array
  loaded-room = omega (arith, loaded-count, filled.within)

  pub loaded-words : take w array ≡ take w (entries64 marks)
  unfolding entries64
  loaded-words = ap (λ (n : ℕ). take n array) (sym loaded-count) ∙ decoded-part ∙ entries-take 8 w (length marks / 8) marks (omega arith)

  pub loaded-each : (i : ℕ) → i < w → get_or array i 0 ≡ get_or (entries64 marks) i 0
  loaded-each i h = sym (get_or-take w array i 0 h) ∙ ap (λ (xs : List ℕ). get_or xs i 0) loaded-words ∙ get_or-take w (entries64 marks) i 0 h

-- ---- Refused or accepted

module _ (r : Reply) (sheets marks supports : List ℕ) where
  chosen : (b : Bool) → eqb r.answer.kind 2 ≡ b → cond b (outcome (packed r.answer) sheets marks supports) (encoded r sheets) ≡ reply_bytes r sheets marks supports
  unfolding reply_bytes
  chosen b e = sym (ap (λ (x : Bool). cond x (outcome (packed r.answer) sheets marks supports) (encoded r sheets)) e)

  pub bytes-refused : (f n : ℕ) → n ≡ packed (answer_numbers (Refused f)) → answer_numbers (Refused f) ≡ r.answer → outcome n sheets marks supports ≡ reply_bytes r sheets marks supports
  bytes-refused f n e a =
      ap (λ (k : ℕ). outcome k sheets marks supports) (e ∙ ap packed a)
      ∙ chosen true (eq-eqb _ _ (sym (ap (λ (k : Numbers). k.kind) a)))

  pub bytes-accepted : (r.answer.kind ≡ 2 → ⊥) → encoded r sheets ≡ reply_bytes r sheets marks supports
  bytes-accepted k = chosen false (ne_eqb _ _ k)

-- ---- From an opening and a plan

module _ (I : Instance) (change : Change) (sheets marks supports : List ℕ) where
  abbrev asked : Request
  asked = request_in I sheets marks supports change

  -- the counts are not those of the words that these bytes hold
  abbrev wrong : Bool
  wrong = untrue I.network (entries64 marks) (counts_in sheets)

  -- the first fault on as many words and numbers as the bytes hold is the request's
  first-fault : (f : ℕ) → f ≡ refusal (first_fault (faults_on I (length marks / 8) (length supports / 2) wrong change)) → f ≡ refusal (first_fault (faults_on I (length (entries64 marks)) (length (entries16 supports)) wrong change))
  first-fault f e = e ∙ ap₂ (λ (j k : ℕ). refusal (first_fault (faults_on I j k wrong change))) (sym (entries64-length marks)) (sym (entries16-length supports))

  -- it is the answer
  faulty : (f : ℕ) → f ≡ refusal (first_fault (faults_on I (length marks / 8) (length supports / 2) wrong change)) → (f ≡ 0 → ⊥) → answer_numbers (Refused f) ≡ (reply asked).answer
  faulty f e d = sym (ap (λ (r : Reply). r.answer) (reply-fault asked f (first-fault f e) d))

  -- one of 2 to 12
  pub opened-refused : (o : Opening) → OpenedOn o I marks supports → (o.fault ≡ 0 → ⊥) → answer_numbers (Refused o.fault) ≡ (reply asked).answer
  unfolding faults_on
  opened-refused o w d =
      faulty o.fault (opened-front o (list_faults I (length marks / 8) (length supports / 2)) I.network.relations w ((18, wrong) ∷ change_faults I.network change) d).fault d

  module _ (p : Plan) (planned : PlannedOn p I sheets marks supports change) where
    pub planned-refused : (p.fault ≡ 0 → ⊥) → answer_numbers (Refused p.fault) ≡ (reply asked).answer
    planned-refused d = faulty p.fault planned.fault d

    pub planned-accepted : p.fault ≡ 0 → (reply asked).answer.kind ≡ 2 → ⊥
    planned-accepted none k = refused-not asked k (accepts-none asked (sym none ∙ first-fault p.fault planned.fault))

    planned-whole : changes.PlannedOn p I (entries64 marks) (entries16 supports) (counts_in sheets) change
    planned-whole = subst₂ (λ (j k : ℕ). Planned p I j k wrong change) (sym (entries64-length marks)) (sym (entries16-length supports)) planned

    -- without fault there is a count for each relation
    pub planned-counts : p.fault ≡ 0 → length (counts_in sheets) ≡ length (network (setting_of p.starts I)).relations
    planned-counts none = planned-tally p I (entries64 marks) (entries16 supports) (counts_in sheets) change planned-whole none

    -- .. and words enough for the instance are enough for the plan
    pub planned-covered : p.fault ≡ 0 → (words : List ℕ) → total I.network ≤ word_bits * length words → Covered p.starts words
    planned-covered none words h =
        let sufficient = (planned.clear none).sufficient in
        record {
          framed = sufficient.sound.laid.framed;
          enough = subst (λ (K : Instance). total K.network ≤ word_bits * length words) (sym sufficient.same) h;
        }

    -- a planned change on the needed words and numbers leaves in the bytes what it leaves on the whole lists
    module _ (none : p.fault ≡ 0) (whole : WholeBytes marks supports) (bm : Bytes marks) (bs : Bytes supports) where
      abbrev J : Instance
      J = instance_in (setting_of p.starts I)

      pub made_bytes : (w : ℕ) (words numbers : List ℕ) → words ≡ take w (entries64 marks) → total J.network ≤ word_bits * w → length numbers ≡ needed J.network (combinations_of J) → written_over (changed J (is_live p.removed) words numbers) sheets marks supports ≡ encoded (reply asked) sheets
      unfolding entries64 entries16
      made_bytes w words numbers e enough long =
          let vs = entries64 marks in
          let ns = entries16 supports in
          let n = needed J.network (combinations_of J) in
          let r = changed J (is_live p.removed) (take w vs) numbers in
          let lengths = changed-lengths J (is_live p.removed) (take w vs) numbers (omega arith) in
          let room = (planned.clear none).sufficient.room in
          let whole-marks : bytes 8 vs ≡ marks = bytes-entries 8 (length marks / 8) marks (omega (arith, whole.words)) bm in
          let whole-supports : bytes 2 ns ≡ supports = bytes-entries 2 (length supports / 2) supports (omega (arith, whole.numbers)) bs in
          let front : length (take n ns) ≡ n = length-take-le n ns (omega (arith, room, entries16-length supports)) in
          ap (λ (xs : List ℕ). written_over (changed J (is_live p.removed) xs numbers) sheets marks supports) e
          ∙ (λ i. outcome (packed r.answer) (with_counts sheets r.counts) (over-bytes 8 w vs r.words marks whole-marks lengths.0 i) (over-bytes 2 n ns r.supports supports whole-supports (lengths.1 ∙ long ∙ sym front) i))
          ∙ ap (λ (t : Reply). encoded t sheets)
          (sym (changed-needed J (is_live p.removed) w vs ns numbers (λ i _. entries_below 8 (length marks / 8) marks bm i) enough long)
          ∙ planned-reply p I vs ns (counts_in sheets) change planned-whole none)

-- an opening without fault is of few relations
pub relations-few : (S : Shape) (variables values : List ℕ) (m : ℕ) (members marks supports : List ℕ) (o : Opening) → OpenedOn o (instance_of S variables values m members) marks supports → o.fault ≡ 0 → S.count ≤ max_relations
relations-few S variables values m members marks supports o opened none =
    let w = length marks / 8 in
    let tested = checked-tested S variables values m members w o none (length supports / 2) opened in
    omega (
      arith,
      (tested-sound S variables values m members w o none tested).laid.framed.bounded.relations,
      ap (λ (K : Instance). length K.network.relations) (tested-instance S variables values m members w o none tested),
      relation-count S,
    )

-- the counts are true of the words decoded if they are of all, and so they are checked
module _ (S : Shape) (variables values : List ℕ) (m : ℕ) (members sheets marks supports : List ℕ) (o : Opening) (opened : OpenedOn o (instance_of S variables values m members) marks supports) (none : o.fault ≡ 0) (words counts : List ℕ) (decoded : Decoded o.starts words counts sheets marks) where
  abbrev N : Network
  N = network_of S variables values

  -- there is a bit for each tuple
  pub decoded-enough : total N ≤ word_bits * length words
  decoded-enough =
      let w = length marks / 8 in
      subst (λ (K : Instance). total K.network ≤ word_bits * length words)
      (tested-instance S variables values m members w o none (checked-tested S variables values m members w o none (length supports / 2) opened))
      decoded.covered.enough

  same-counts : untrue N words counts ≡ untrue N (entries64 marks) (counts_in sheets)
  same-counts =
      untrue-same N words (entries64 marks) counts (ap (living (total N)) decoded.first ∙ living-take (total N) (length words) (entries64 marks) decoded-enough)
      ∙ ap (untrue N (entries64 marks)) decoded.all

  pub checked-opens : (checked : Opening) → CountsChecked o words counts checked → Opens checked S variables values m members (length marks / 8) (length supports / 2) (untrue N (entries64 marks) (counts_in sheets))
  checked-opens checked c =
      subst (Opens checked S variables values m members (length marks / 8) (length supports / 2)) same-counts
      (counted-opened S variables values m members (length marks / 8) o (length supports / 2) opened words counts checked c)

-- an answer of a change on so few relations fits its byte
pub changed-subject : (I : Instance) (removed : ℕ → Bool) (words supports : List ℕ) → length I.network.relations ≤ max_relations → (changed I removed words supports).answer.subject < 256
unfolding changed leaving
changed-subject I removed words supports few =
    let S = living (total I.network) words in
    let R = without removed S in
    let L = filtered I.network (combinations_of I) R in
    answer-subject I.network L (record { left = count L; withdrawn = count S - count R; deleted = count R - count L }) few (dec_lt (lowest_empty I.network L) (length I.network.relations))

-- ---- Whole or not

module _ {A : Type 0} (x y : A) (w : Bool) where
  pub cond-whole : w ≡ true → x ≡ cond w x y
  cond-whole e = sym (ap (λ (b : Bool). cond b x y) e)

  pub cond-not : w ≡ false → y ≡ cond w x y
  cond-not e = sym (ap (λ (b : Bool). cond b x y) e)
