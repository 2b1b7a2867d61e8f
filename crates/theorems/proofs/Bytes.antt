-- The mission's three points of the change calls from C, on bytes, from nothing but their contracts; and the promises of test and
-- compare there. From those of the calls on lists, and the laws of entries, of counts in records and of packed answers.
use mathlib.Core.Path.{◌≡◌, refl, sym, ◌∙◌, ap, subst}
use mathlib.Core.Bool.{Bool, true, false, not, ◌&&◌, ◌||◌, cond}
use mathlib.Core.Option.{Option, none, some}
use mathlib.Core.Logic.{◌⊎◌, inl, inr, ⊎_elim}
use mathlib.Core.List.Memᴰ
use mathlib.Core.List.{List, [], ◌∷◌, Memᴰ}
use Prim.Native.Nat.{ℕ, ◌+◌, ◌*◌, ◌/◌, ◌^◌, ◌≤◌, ◌<◌}
use native.Mathlib.Decide.{ℕ_discrete}
use native.Mathlib.Omega.{arith}
use borrow.Author.Tests.{eq-eqb, ne_eqb, eqb-true, not-false}
use lib.Dec.{eqb}
use lib.ListN.{length, get_or}
use Rattle.model.specs.declared.Relation.{Relation}
use Rattle.model.specs.Request.{Instance, combinations_of, Request}
use Rattle.model.specs.Network.{Network, total}
use Rattle.model.specs.Agreement.{first_clash}
use Rattle.model.specs.Consistency.{is_consistent}
use Rattle.model.specs.LiveWords.{living}
use Rattle.model.specs.Fault.{published, first_fault, test_faults, compare_faults, accepts}
use Rattle.model.specs.Reply.{Reply, reply, Keeps, verdict_for, comparison_for, test_reply, compare_reply}
use Rattle.model.specs.Calls.{lent_marks, call_request, shared_after, Proper, Made, is_accepted, State, start, after, after_all, AllKeep, any_accepted}
use Rattle.model.specs.Promises.{Answered, Filtered, StrikeRule, Local, TestAnswered, CompareAnswered}
use Rattle.model.proofs.Bools.{and_left, and_right, or-false-left, or-false-right}
use Rattle.model.proofs.Lists.{here}
use Rattle.model.proofs.Reply.{reply-refused, reply-kept, refused-not}
use Rattle.model.proofs.Edges.{reply-lengths, reply-words-below, reply-supports-below}
use Rattle.model.proofs.Mission.{answered, filtering, claim, test-answered, compare-answered}
use Rattle.wire.specs.Entries.{Bytes, entries16, entries32, entries64, bytes}
use Rattle.wire.proofs.Entries.{entries_below, entries64-length, bytes-length, bytes-bytes, entries16-bytes, entries64-bytes}
use Rattle.encoding.specs.Records.{records, counts_in, with_counts}
use Rattle.encoding.specs.Whole.{whole, whole_network, whole_instance, whole_change}
use Rattle.encoding.specs.Packed.{packed, unpacked, packed_pair, pair_in, Outcome, outcome, encoded, reply_bytes}
use Rattle.encoding.specs.Call.{ByteBook, byte_network, byte_instance, ByteRequest, is_whole, whole_lists, whole_own, not_whole, decoded_change, decoded, accepts_bytes, byte_reply, KeepsBytes, whole_test, byte_test, TestedBytes, whole_book, byte_compare, ComparedBytes}
use Rattle.encoding.proofs.Records.{records-length}
use Rattle.encoding.proofs.Counts.{counts-length, written-length, written-bytes, written-records, written-counts, written-again, written_held}
use Rattle.encoding.proofs.Whole.{whole-written, whole-records}
use Rattle.encoding.proofs.Packed.{reply-unpacked, reply-counts-below, verdict-back, comparison-back}
use Rattle.theorems.specs.ByteCalls.{decoded_outcome, OnlyCounts, Untouched, PublishedByte, ByteAnswered, ByteMarks, ByteRest, book_of, ByteCall, lent_bytes, request_of, shared_bytes, left_in, ByteMade, is_accepted_byte, ByteState, start_bytes, after_bytes, after_all_bytes, AllKeepBytes, ProperBytes, AreBytes, AllBytes, any_accepted_bytes, decoded_marks, decoded_own, decoded_call, decoded_made, decoded_all, decoded_last, decoded_state, ByteClaim, ByteDecides, ByteTestAnswered, ByteCompareAnswered}

-- ---- Records of which only the counts differ

only_self : (bs : List ℕ) → Bytes bs → OnlyCounts bs bs
only_self bs b = record { long = refl; same = sym (written_held bs b); are-bytes = b }

module _ (lent after : List ℕ) (only : OnlyCounts lent after) where
  -- there is a record for each count
  only-room : 6 * length (counts_in after) ≤ length lent
  only-room = omega (arith, counts-length after, only.long)

  pub only-records : records after ≡ records lent
  only-records = ap records only.same ∙ written-records lent (counts_in after) only-room

  only_next : (later : List ℕ) → OnlyCounts after later → OnlyCounts lent later
  only_next later next =
      record {
        long = next.long ∙ only.long;
        same =
            next.same
            ∙ ap (λ (bs : List ℕ). with_counts bs (counts_in later)) only.same
            ∙ written-again lent (counts_in after) (counts_in later) (omega (arith, counts-length after, counts-length later, next.long)) (omega (arith, counts-length later, next.long, only.long));
        are-bytes = next.are-bytes;
      }

-- ---- One call

-- what is not refused is accepted
accepted-of : (q : Request) → ((reply q).answer.kind ≡ 2 → ⊥) → accepts q ≡ true
accepted-of q k = go (accepts q) refl
  where
    go : (b : Bool) → accepts q ≡ b → b ≡ true
    go true e = refl
    go false e = absurd (k (ap (λ (p : Reply). p.answer.kind) (reply-refused q e).1))

module _ (q : ByteRequest) (o : Outcome) (kept : KeepsBytes q o) where
  abbrev r : Reply
  r = reply (decoded q)

  abbrev sheets : List ℕ
  sheets = q.book.sheets

  -- every byte as lent, with this answer
  abbrev pub as_lent : ℕ → Outcome
  as_lent n = outcome n sheets q.marks q.supports

  chosen : (b : Bool) → is_whole q ≡ b → o ≡ cond b (reply_bytes r sheets q.marks q.supports) (as_lent not_whole)
  unfolding byte_reply
  chosen b e = kept ∙ ap (λ (x : Bool). cond x (reply_bytes r sheets q.marks q.supports) (as_lent not_whole)) e

  pub not-whole : is_whole q ≡ false → o ≡ as_lent not_whole
  not-whole e = chosen false e

  untouched-by : (n : ℕ) → o ≡ as_lent n → Untouched q o
  untouched-by n e = (ap (λ (p : Outcome). p.sheets) e, ap (λ (p : Outcome). p.marks) e, ap (λ (p : Outcome). p.supports) e)

  module _ (w : is_whole q ≡ true) where
    -- a refusal leaves the bytes, and an accepted call those of its reply
    back : (b : Bool) → eqb r.answer.kind 2 ≡ b → o ≡ cond b (as_lent (packed r.answer)) (encoded r sheets)
    unfolding reply_bytes
    back b e = chosen true w ∙ ap (λ (x : Bool). cond x (as_lent (packed r.answer)) (encoded r sheets)) e

    pub back-refused : r.answer.kind ≡ 2 → o ≡ as_lent (packed r.answer)
    back-refused k = back true (eq-eqb _ _ k)

    pub back-accepted : (r.answer.kind ≡ 2 → ⊥) → o ≡ encoded r sheets
    back-accepted k = back false (ne_eqb _ _ k)

    pub lists-whole : whole_lists q.book q.marks q.supports ≡ true
    lists-whole = and_left (whole_lists q.book q.marks q.supports) (whole_own q.change) w

    -- ---- The counts

    module _ (k : r.answer.kind ≡ 2 → ⊥) where
      -- as many as records
      counts-many : length sheets ≡ 6 * length r.counts
      counts-many =
          let B = q.book in
          let many = (filtering (decoded q) (accepted-of (decoded q) k)).counted.long in
          omega (arith, many, records-length sheets, whole-records (length sheets) (length B.questions) (length B.codes) (length B.combinations) (length q.marks) (length q.supports) lists-whole)

      counts-back : counts_in (with_counts sheets r.counts) ≡ r.counts
      counts-back = written-counts sheets r.counts counts-many (reply-counts-below (decoded q) (accepted-of (decoded q) k))

      counts-only : Bytes sheets → OnlyCounts sheets (with_counts sheets r.counts)
      counts-only b =
          record {
            long = written-length sheets r.counts (omega (arith, counts-many));
            same = ap (with_counts sheets) (sym counts-back);
            are-bytes = written-bytes sheets r.counts b;
          }

    -- ---- What the bytes hold

    module _ (bm : Bytes q.marks) (bs : Bytes q.supports) where
      small : (i : ℕ) → get_or (decoded q).words i 0 < 2 ^ 64
      unfolding entries64
      small i = entries_below 8 (length q.marks / 8) q.marks bm i

      narrow : (i : ℕ) → get_or (decoded q).supports i 0 < 65536
      unfolding entries16
      narrow i = entries_below 2 (length q.supports / 2) q.supports bs i

      words_back : entries64 (bytes 8 r.words) ≡ r.words
      words_back = entries64-bytes r.words (reply-words-below (decoded q) small)

      supports-back : entries16 (bytes 2 r.supports) ≡ r.supports
      supports-back = entries16-bytes r.supports (reply-supports-below (decoded q) narrow)

      decoded-case : Dec (r.answer.kind ≡ 2) → decoded_outcome o ≡ r
      decoded-case (yes k) =
          let lists = reply-kept (decoded q) k in
          ap decoded_outcome (back-refused k)
          ∙ (λ i. record { answer = reply-unpacked (decoded q) i; words = sym lists.0 i; supports = sym lists.1 i; counts = sym lists.2 i })
      decoded-case (no k) =
          ap decoded_outcome (back-accepted k)
          ∙ (λ i. record { answer = reply-unpacked (decoded q) i; words = words_back i; supports = supports-back i; counts = counts-back k i })

      pub decoded-is : decoded_outcome o ≡ r
      decoded-is = decoded-case (ℕ_discrete r.answer.kind 2)

      -- ---- Points 1 and 2

      left-bytes : Bytes sheets → accepts_bytes q ≡ true → OnlyCounts sheets o.sheets × (o.marks ≡ bytes 8 (entries64 o.marks)) × (o.supports ≡ bytes 2 (entries16 o.supports))
      unfolding accepts_bytes
      left-bytes bt a =
          let k : r.answer.kind ≡ 2 → ⊥ = λ e. refused-not (decoded q) e (and_right (is_whole q) (accepts (decoded q)) a) in
          let e = back-accepted k in (
            subst (λ (p : Outcome). OnlyCounts sheets p.sheets) (sym e) (counts-only k bt),
            ap (λ (p : Outcome). p.marks) e ∙ sym (ap (bytes 8) (ap (λ (p : Outcome). entries64 p.marks) e ∙ words_back)),
            ap (λ (p : Outcome). p.supports) e ∙ sym (ap (bytes 2) (ap (λ (p : Outcome). entries16 p.supports) e ∙ supports-back)),
          )

  -- a refusal has a published number and changes no byte
  refused-case : Bytes q.marks → Bytes q.supports → (b : Bool) → is_whole q ≡ b → (unpacked o.answer).kind ≡ 2 → Untouched q o × PublishedByte (unpacked o.answer).subject
  unfolding unpacked
  refused-case bm bs false e k =
      let n = not-whole e in
      (untouched-by not_whole n, inl (ap (λ (p : Outcome). (unpacked p.answer).subject) n))
  refused-case bm bs true e k =
      let same = decoded-is e bm bs in
      let kind = sym (ap (λ (p : Reply). p.answer.kind) same) ∙ k in
      (untouched-by (packed r.answer) (back-refused e kind), inr (subst (λ (p : Reply). published p.answer.subject ≡ true) (sym same) (reply-kept (decoded q) kind).3))

  pub points-1-2 : Bytes sheets → Bytes q.marks → Bytes q.supports → ByteAnswered q o
  unfolding accepts_bytes
  points-1-2 bt bm bs =
      record {
        not-whole = not-whole;
        whole = λ w. subst (Answered (decoded q)) (sym (decoded-is w bm bs)) (answered (decoded q));
        refused = refused-case bm bs (is_whole q) refl;
        filtered = λ a.
            let w = and_left (is_whole q) (accepts (decoded q)) a in
            subst (Filtered (decoded q)) (sym (decoded-is w bm bs)) (filtering (decoded q) (and_right (is_whole q) (accepts (decoded q)) a));
        bytes_left = λ a. left-bytes (and_left (is_whole q) (accepts (decoded q)) a) bm bs bt a;
      }

-- ---- Lists of calls

-- the records and marks lent are as long, and so the same lists are whole
abbrev AsLong : ByteMarks → ByteMarks → Type 0
AsLong s t = (length s.sheets ≡ length t.sheets) × (length s.marks ≡ length t.marks)

lent-long : (own : Option ByteMarks) (s t : ByteMarks) → AsLong s t → AsLong (lent_bytes own s) (lent_bytes own t)
lent-long none s t e = e
lent-long (some own) s t e = (refl, refl)

whole_same : (c : ByteCall) (s t : ByteMarks) → AsLong s t → is_whole (request_of s c) ≡ is_whole (request_of t c)
whole_same c s t e =
    let R = c.rest in
    let l = lent-long c.own s t e in
    λ i. whole_change (l.0 i) (length R.questions) (length R.codes) (length R.combinations) (l.1 i) (length c.supports) && whole_own c.change

-- the request of the decoded call is the decoded request, where the shared records are those of the start
lent_same : (own : Option ByteMarks) (s : ByteMarks) → lent_marks (decoded_own own) (decoded_marks s) ≡ decoded_marks (lent_bytes own s)
lent_same none s = refl
lent_same (some own) s = refl

lent-records : (own : Option ByteMarks) (s t : ByteMarks) → records t.sheets ≡ records s.sheets → records (lent_bytes own s).sheets ≡ records (lent_bytes own t).sheets
lent-records none s t e = sym e
lent-records (some own) s t e = refl

request-same : (c : ByteCall) (s t : ByteMarks) → records t.sheets ≡ records s.sheets → call_request (decoded_marks t) (decoded_call s c) ≡ decoded (request_of t c)
request-same c s t e =
    let R = c.rest in
    λ i. record {
      given = record {
        network = record { relations = lent-records c.own s t e i; variables = entries16 R.questions; values = entries32 R.codes };
        m = R.m;
        members = entries16 R.combinations;
      };
      words = (lent_same c.own t i).words;
      supports = entries16 c.supports;
      counts = (lent_same c.own t i).counts;
      change = decoded_change c.change;
    }

shared_same : (own : Option ByteMarks) (s after : ByteMarks) → decoded_marks (shared_bytes own s after) ≡ shared_after (decoded_own own) (decoded_marks s) (decoded_marks after)
shared_same none s after = refl
shared_same (some own) s after = refl

last-same : (s : ByteMarks) (b : Bool) (c : ByteMade) (o : Option ByteMade) → decoded_last s (cond b (some c) o) ≡ cond b (some (decoded_made s c)) (decoded_last s o)
last-same s true c o = refl
last-same s false c o = refl

lent-bytes : (own : Option ByteMarks) (s t : ByteMarks) → AreBytes (lent_bytes own s) → AreBytes t → AreBytes (lent_bytes own t)
lent-bytes none s t b c = c
lent-bytes (some own) s t b c = b

shared-lent : (own : Option ByteMarks) (s : ByteMarks) → shared_bytes own s (lent_bytes own s) ≡ s
shared-lent none s = refl
shared-lent (some own) s = refl

-- What is left of the bytes lent: of the records only the counts differ, the marks are as many, and all are bytes.
pub record Kept (lent left : ByteMarks) : Type 0 where
  pub only : OnlyCounts lent.sheets left.sheets
  pub long : length left.marks ≡ length lent.marks
  pub are-bytes : Bytes left.marks

pub kept_self : (s : ByteMarks) → AreBytes s → Kept s s
kept_self s b = record { only = only_self s.sheets b.0; long = refl; are-bytes = b.1 }

kept_next : (own : Option ByteMarks) (s t left : ByteMarks) → Kept s t → Kept (lent_bytes own t) left → Kept s (shared_bytes own t left)
kept_next none s t left k next =
    record { only = only_next s.sheets t.sheets k.only left.sheets next.only; long = next.long ∙ k.long; are-bytes = next.are-bytes }
kept_next (some own) s t left k next = k

-- ---- What one call does to them

-- a refusal withdraws and deletes nothing
refused-gone : (q : Request) → (reply q).answer.kind ≡ 2 → (reply q).answer.withdrawn + (reply q).answer.deleted ≡ 0
refused-gone q k = go (accepts q) refl
  where
    go : (b : Bool) → accepts q ≡ b → (reply q).answer.withdrawn + (reply q).answer.deleted ≡ 0
    go true e = absurd (refused-not q k e)
    go false e = ap (λ (p : Reply). p.answer.withdrawn + p.answer.deleted) (reply-refused q e).1

module _ (q : ByteRequest) (o : Outcome) (kept : KeepsBytes q o) (b : AreBytes (record { sheets = q.book.sheets; marks = q.marks })) where
  abbrev Leaves : Outcome → Type 0
  Leaves p = Kept (record { sheets = q.book.sheets; marks = q.marks }) (left_in p)

  left-case : (x : Bool) → is_whole q ≡ x → Dec ((reply (decoded q)).answer.kind ≡ 2) → Leaves o
  left-case false e d = subst Leaves (sym (not-whole q o kept e)) (kept_self _ b)
  left-case true e (yes k) = subst Leaves (sym (back-refused q o kept e k)) (kept_self _ b)
  left-case true e (no k) =
      let B = q.book in
      let ws = (reply (decoded q)).words in
      let words-whole = (whole-written (length B.sheets) (length B.questions) (length B.codes) (length B.combinations) (length q.marks) (length q.supports) (lists-whole q o kept e)).0 in
      subst Leaves (sym (back-accepted q o kept e k))
      (record {
        only = counts-only q o kept e k b.0;
        long = omega (arith, bytes-length 8 ws, (reply-lengths (decoded q)).0, entries64-length q.marks, words-whole);
        are-bytes = bytes-bytes 8 ws;
      })

  pub leaves : Leaves o
  leaves = left-case (is_whole q) refl (ℕ_discrete (reply (decoded q)).answer.kind 2)

  none-gone : Bytes q.supports → (x : Bool) → is_whole q ≡ x → (unpacked o.answer).kind ≡ 2 → (unpacked o.answer).withdrawn + (unpacked o.answer).deleted ≡ 0
  unfolding unpacked
  none-gone bs false e k = ap (λ (p : Outcome). (unpacked p.answer).withdrawn + (unpacked p.answer).deleted) (not-whole q o kept e)
  none-gone bs true e k =
      let same = decoded-is q o kept e b.1 bs in
      ap (λ (p : Reply). p.answer.withdrawn + p.answer.deleted) same
      ∙ refused-gone (decoded q) (sym (ap (λ (p : Reply). p.answer.kind) same) ∙ k)

-- a call that was not accepted was refused
refused-kind : (c : ByteMade) → is_accepted_byte c ≡ false → (unpacked c.1.answer).kind ≡ 2
refused-kind c a = eqb-true _ _ (not-false _ a)

-- one whose lists are not all whole is
not-whole-refused : (s : ByteMarks) (c : ByteMade) → KeepsBytes (request_of s c.0) c.1 → is_whole (request_of s c.0) ≡ false → is_accepted_byte c ≡ false
unfolding unpacked
not-whole-refused s c keep e = ap (λ (p : Outcome). not (eqb (unpacked p.answer).kind 2)) (not-whole (request_of s c.0) c.1 keep e)

module _ (s : ByteMarks) where
  -- of the shared bytes, those of the start are kept
  abbrev pub Shared : ByteState → Type 0
  Shared st = Kept s st.shared

  module _ (st : ByteState) (c : ByteMade) (shared : Shared st) (b : AreBytes (lent_bytes c.0.own s)) (bs : Bytes c.0.supports) (keep : KeepsBytes (request_of st.shared c.0) c.1) where
    abbrev q : ByteRequest
    q = request_of st.shared c.0

    lent : AreBytes (lent_bytes c.0.own st.shared)
    lent = lent-bytes c.0.own s st.shared b (shared.only.are-bytes, shared.are-bytes)

    next-shared : Shared (after_bytes st c)
    next-shared = kept_next c.0.own s st.shared (left_in c.1) shared (leaves q c.1 keep lent)

    -- a call that was refused changes nothing
    next-refused : is_accepted_byte c ≡ false → after_bytes st c ≡ st
    next-refused a =
        let k = refused-kind c a in
        let as_lent = (refused-case q c.1 keep lent.1 bs (is_whole q) refl k).0 in
        let left-same : left_in c.1 ≡ lent_bytes c.0.own st.shared = λ i. record { sheets = as_lent.0 i; marks = as_lent.1 i } in
        let same = ap (shared_bytes c.0.own st.shared) left-same ∙ shared-lent c.0.own st.shared in
        let none_more : st.gone + ((unpacked c.1.answer).withdrawn + (unpacked c.1.answer).deleted) ≡ st.gone = omega (arith, none-gone q c.1 keep lent bs (is_whole q) refl k) in
        λ i. record { shared = same i; gone = none_more i; last = ap {B = Option ByteMade} (λ x. cond x (some c) st.last) a i }

    -- a call whose lists are whole does what its decoded call does
    next-keeps : is_whole q ≡ true → Keeps (call_request (decoded_marks st.shared) (decoded_call s c.0)) (decoded_outcome c.1)
    next-keeps w =
        decoded-is q c.1 keep w lent.1 bs
        ∙ ap reply (sym (request-same c.0 s st.shared (only-records s.sheets st.shared.sheets shared.only)))

    next-state : decoded_state s (after_bytes st c) ≡ after (decoded_state s st) (decoded_made s c)
    next-state =
        λ i. record {
          marks = shared_same c.0.own st.shared (left_in c.1) i;
          gone = st.gone + ((unpacked c.1.answer).withdrawn + (unpacked c.1.answer).deleted);
          last = last-same s (is_accepted_byte c) c st.last i;
        }

  -- What the bytes of these calls hold is what their decoded calls leave.
  pub record Decoded (st : ByteState) (made : List ByteMade) (calls : List Made) : Type 0 where
    pub keep : AllKeep (decoded_state s st) calls
    pub state : decoded_state s (after_all_bytes st made) ≡ after_all (decoded_state s st) calls
    pub any : any_accepted_bytes made ≡ any_accepted calls
    pub shared : Shared (after_all_bytes st made)

  decoded-cons : (st : ByteState) (c : ByteMade) (made : List ByteMade) → Shared st → AllBytes s (c ∷ made) → AllKeepBytes st (c ∷ made) → Decoded (after_bytes st c) made (decoded_all s made) → (b : Bool) → is_whole (request_of s c.0) ≡ b → Decoded st (c ∷ made) (cond b (decoded_made s c ∷ decoded_all s made) (decoded_all s made))
  unfolding any_accepted
  decoded-cons st c made shared are keep rest true e =
      let w = whole_same c.0 st.shared s (shared.only.long, shared.long) ∙ e in
      let b = are c here in
      let next = next-state st c shared b.0 b.1 keep.0 in
      record {
        keep = (next-keeps st c shared b.0 b.1 keep.0 w, subst (λ (t : State). AllKeep t (decoded_all s made)) next rest.keep);
        state = rest.state ∙ ap (λ (t : State). after_all t (decoded_all s made)) next;
        any = ap (λ (x : Bool). is_accepted_byte c || x) rest.any;
        shared = rest.shared;
      }
  decoded-cons st c made shared are keep rest false e =
      let w = whole_same c.0 st.shared s (shared.only.long, shared.long) ∙ e in
      let b = are c here in
      let no = not-whole-refused st.shared c keep.0 w in
      let same = ap (decoded_state s) (next-refused st c shared b.0 b.1 keep.0 no) in
      record {
        keep = subst (λ (t : State). AllKeep t (decoded_all s made)) same rest.keep;
        state = rest.state ∙ ap (λ (t : State). after_all t (decoded_all s made)) same;
        any = ap (λ (x : Bool). x || any_accepted_bytes made) no ∙ rest.any;
        shared = rest.shared;
      }

  pub decoded-all : (st : ByteState) (made : List ByteMade) → Shared st → AllBytes s made → AllKeepBytes st made → Decoded st made (decoded_all s made)
  unfolding any_accepted
  decoded-all st [] shared are keep = record { keep = keep; state = refl; any = refl; shared = shared }
  decoded-all st (c ∷ made) shared are keep =
      let b = are c here in
      decoded-cons st c made shared are keep
      (decoded-all (after_bytes st c) made (next-shared st c shared b.0 b.1 keep.0) (λ d m. are d (Memᴰ.tail m)) keep.1)
      (is_whole (request_of s c.0)) refl

  -- ---- A list with no accepted call

  none-all : (made : List ByteMade) (st : ByteState) → st.shared ≡ s → AreBytes s → AllBytes s made → AllKeepBytes st made → any_accepted_bytes made ≡ false → (after_all_bytes st made ≡ st) × ((c : ByteMade) → Memᴰ c made → Untouched (request_of s c.0) c.1)
  none-all [] st w b are keep h = (refl, λ c m. absurd (Memᴰ.not-nil m))
  none-all (c ∷ made) st w b are keep h =
      let l = are c here in
      let shared : Shared st = subst (Kept s) (sym w) (kept_self s b) in
      let no = or-false-left (is_accepted_byte c) (any_accepted_bytes made) h in
      let q = request_of s c.0 in
      let this = (refused-case q c.1 (subst (λ (t : ByteMarks). KeepsBytes (request_of t c.0) c.1) w keep.0) l.0.1 l.1 (is_whole q) refl (refused-kind c no)).0 in
      let same = next-refused st c shared l.0 l.1 keep.0 no in
      let rest = none-all made (after_bytes st c) (ap (λ (t : ByteState). t.shared) same ∙ w) b (λ d m. are d (Memᴰ.tail m)) keep.1 (or-false-right (is_accepted_byte c) (any_accepted_bytes made) h) in (
        rest.0 ∙ same,
        λ d m. ⊎_elim (λ e. subst (λ (x : ByteMade). Untouched (request_of s x.0) x.1) (sym e) this) (λ n. rest.1 d n) (Memᴰ.cases_cons m),
      )

  -- ---- On the shared bytes

  module _ (R : ByteRest) where
    abbrev I : Instance
    I = byte_instance (book_of R s.sheets)

    proper-call : (c : ByteMade) → ((c.0.rest ≡ R) × (c.0.own ≡ none)) ⊎ (is_accepted_byte c ≡ false) → (((decoded_call s c.0).given ≡ I) × ((decoded_call s c.0).own ≡ none)) ⊎ (is_accepted (decoded_made s c) ≡ false)
    proper-call c (inl e) = inl ((λ i. byte_instance (book_of (e.0 i) (lent_bytes (e.1 i) s).sheets)), ap decoded_own e.1)
    proper-call c (inr a) = inr a

    proper-cons : (c : ByteMade) (made : List ByteMade) → ProperBytes R (c ∷ made) → Proper I (decoded_all s made) → (b : Bool) → is_whole (request_of s c.0) ≡ b → Proper I (cond b (decoded_made s c ∷ decoded_all s made) (decoded_all s made))
    proper-cons c made proper rest true e d m =
        ⊎_elim
        (λ t. subst (λ (x : Made). ((x.0.given ≡ I) × (x.0.own ≡ none)) ⊎ (is_accepted x ≡ false)) (sym t) (proper-call c (proper c here)))
        (λ n. rest d n)
        (Memᴰ.cases_cons m)
    proper-cons c made proper rest false e d m = rest d m

    proper-all : (made : List ByteMade) → ProperBytes R made → Proper I (decoded_all s made)
    proper-all [] proper d m = absurd (Memᴰ.not-nil m)
    proper-all (c ∷ made) proper d m = proper-cons c made proper (proper-all made (λ e n. proper e (Memᴰ.tail n))) (is_whole (request_of s c.0)) refl d m

-- ---- Point 3

pub point-3-bytes : (R : ByteRest) (s : ByteMarks) (made : List ByteMade) → AreBytes s → AllBytes s made → ProperBytes R made → AllKeepBytes (start_bytes s) made → ByteClaim R s made
point-3-bytes R s made b are proper keep =
    let d = decoded-all s (start_bytes s) made (kept_self s b) are keep in
    let J = byte_instance (book_of R s.sheets) in
    let calls = decoded_all s made in
    let c = claim J (decoded_marks s) calls (proper-all s R made proper) d.keep in
    record {
      rule = λ e. subst (StrikeRule J (decoded_marks s) calls) (sym d.state) (c.rule (sym d.any ∙ e));
      nothing = λ e. none-all s made (start_bytes s) refl b are keep e;
      local = subst (Local J (decoded_marks s) calls) (sym d.state) c.local;
      sheets-left = d.shared.only;
      marks-left = (d.shared.long, d.shared.are-bytes);
    }

-- ---- Test and compare

decides-bytes : (w : Bool) (promise : ℕ × ℕ → Type 0) (n : ℕ) (p : ℕ × ℕ) → pair_in (packed_pair p) ≡ p → promise p → n ≡ cond w (packed_pair p) not_whole → ByteDecides w promise n
decides-bytes w promise n p back holds e =
    record {
      whole = λ t. subst promise (sym (ap pair_in (e ∙ ap (λ (b : Bool). cond b (packed_pair p) not_whole) t) ∙ back)) holds;
      not-whole = λ t. e ∙ ap (λ (b : Bool). cond b (packed_pair p) not_whole) t;
    }

pub test-promise-bytes : (B : ByteBook) (marks : List ℕ) (n : ℕ) → TestedBytes B marks n → ByteTestAnswered B marks n
unfolding byte_test test_reply
test-promise-bytes B marks n kept =
    let I = byte_instance B in
    decides-bytes (whole_test B marks) (TestAnswered I (entries64 marks)) n (test_reply I (entries64 marks))
    (verdict-back (verdict_for (first_fault (test_faults I (entries64 marks))) (is_consistent I.network (combinations_of I) (living (total I.network) (entries64 marks)))))
    (test-answered I (entries64 marks)) kept

pub compare-promise-bytes : (sheets questions codes : List ℕ) (a b n : ℕ) → ComparedBytes sheets questions codes a b n → ByteCompareAnswered sheets questions codes a b n
unfolding byte_compare compare_reply
compare-promise-bytes sheets questions codes a b n kept =
    let N = byte_network sheets questions codes in
    decides-bytes (whole_book sheets questions codes) (CompareAnswered N a b) n (compare_reply N a b)
    (comparison-back (comparison_for (first_fault (compare_faults N a b)) (first_clash N a b))) (compare-answered N a b) kept

-- ---- .. which do not look at the counts

module _ (R : ByteRest) (sheets after : List ℕ) (only : OnlyCounts sheets after) where
  -- the network of these records
  abbrev over : List Relation → Network
  over Rs = record { relations = Rs; variables = entries16 R.questions; values = entries32 R.codes }

  same-records : records after ≡ records sheets
  same-records = only-records sheets after only

  pub test-counts : (marks : List ℕ) → byte_test (book_of R after) marks ≡ byte_test (book_of R sheets) marks
  unfolding byte_test
  test-counts marks =
      λ i. cond (whole_instance (only.long i) (length R.questions) (length R.codes) (length R.combinations) && whole 8 (length marks))
      (packed_pair (test_reply (record { network = over (same-records i); m = R.m; members = entries16 R.combinations }) (entries64 marks))) not_whole

  pub compare-counts : (a b : ℕ) → byte_compare after R.questions R.codes a b ≡ byte_compare sheets R.questions R.codes a b
  unfolding byte_compare
  compare-counts a b =
      λ i. cond (whole_network (only.long i) (length R.questions) (length R.codes)) (packed_pair (compare_reply (over (same-records i)) a b)) not_whole
