-- Bigger combinations only tighten and filtering again changes nothing, of the functions for C, on bytes. From those of `reply`, and
-- from what the bytes that a call leaves hold.
use mathlib.Core.Path.{◌≡◌, sym, ◌∙◌, ap, subst}
use mathlib.Core.Bool.{true}
use mathlib.Core.Logic.{inl, inr}
use mathlib.Core.List.{List}
use Prim.Native.Nat.{ℕ, ◌+◌, ◌*◌, ◌/◌, ◌%◌, ◌<◌}
use native.Mathlib.Omega.{arith}
use native.Mathlib.Decide.{dec_lt}
use lib.ListN.{length, get_or, get_or-eq_default}
use Rattle.model.specs.LiveWords.{is_set}
use Rattle.model.specs.Request.{Change, combinations_of, Request}
use Rattle.model.specs.Fault.{accepts}
use Rattle.model.specs.Reply.{Reply, reply}
use Rattle.model.specs.Tighter.{all_inside, SameStart, Tighter, Spent, again, Repeats}
use Rattle.model.proofs.Bools.{and_left, and_right, and_intro, not-both}
use Rattle.model.proofs.Fault.{accepts-supports}
use Rattle.model.proofs.Reply.{refused-not}
use Rattle.model.proofs.Tighter.{tighter}
use Rattle.model.proofs.Repeats.{repeats}
use Rattle.wire.specs.Entries.{Bytes, entries16, entries64, bytes}
use Rattle.wire.proofs.Entries.{entries16-length}
use Rattle.encoding.specs.Records.{counts_in, with_counts}
use Rattle.encoding.specs.Whole.{whole_change}
use Rattle.encoding.specs.Packed.{Outcome}
use Rattle.encoding.specs.Call.{byte_network, byte_instance, ByteRequest, is_whole, whole_own, whole_lists, decoded_change, decoded, accepts_bytes, KeepsBytes}
use Rattle.encoding.proofs.Counts.{written_held}
use Rattle.encoding.proofs.Whole.{whole-written}
use Rattle.theorems.specs.ByteCalls.{decoded_outcome}
use Rattle.theorems.specs.Tighter.{IsBytes, SameBytes, ByteTighter, again_bytes, SpentBytes, ByteRepeats}
use Rattle.theorems.proofs.Bits.{none-set, marks-bit}
use Rattle.theorems.proofs.Bytes.{only-records, decoded-is, back-accepted, leaves, points-1-2}

is-whole : (q : ByteRequest) → accepts_bytes q ≡ true → is_whole q ≡ true
unfolding accepts_bytes
is-whole q a = and_left (is_whole q) (accepts (decoded q)) a

is-accepted : (q : ByteRequest) → accepts_bytes q ≡ true → accepts (decoded q) ≡ true
unfolding accepts_bytes
is-accepted q a = and_right (is_whole q) (accepts (decoded q)) a

-- ---- Two calls from the same start

same_start : (first second : ByteRequest) → SameBytes first second → SameStart (decoded first) (decoded second)
same_start first second same =
    record {
      network = λ i. byte_network (same.sheets i) (same.questions i) (same.codes i);
      words = ap entries64 same.marks;
      change = ap decoded_change same.change;
    }

module _ (first second : ByteRequest) (o o' : Outcome) (kept : KeepsBytes first o) (kept' : KeepsBytes second o') (same : SameBytes first second) (b : IsBytes first) (b' : IsBytes second) (a : accepts_bytes first ≡ true) (a' : accepts_bytes second ≡ true) (inside : all_inside (combinations_of (byte_instance first.book)) (combinations_of (byte_instance second.book)) ≡ true) where
  held-tighter : Tighter (decoded first) (decoded_outcome o) (decoded second) (decoded_outcome o')
  held-tighter =
      subst (λ (x : Reply). Tighter (decoded first) x (decoded second) (decoded_outcome o')) (sym (decoded-is first o kept (is-whole first a) b.marks b.supports))
      (subst (Tighter (decoded first) (reply (decoded first)) (decoded second)) (sym (decoded-is second o' kept' (is-whole second a') b'.marks b'.supports))
      (tighter (decoded first) (decoded second) (same_start first second same) (is-accepted first a) (is-accepted second a') inside))

  -- the marks are as many bytes, in whole words
  marks-long : length o.marks ≡ length o'.marks
  marks-long = (leaves first o kept (b.sheets, b.marks)).long ∙ ap length same.marks ∙ sym (leaves second o' kept' (b'.sheets, b'.marks)).long

  marks-whole : length o'.marks % 8 ≡ 0
  marks-whole =
      let B = second.book in
      let lists = and_left (whole_lists B second.marks second.supports) (whole_own second.change) (is-whole second a') in
      let w = (whole-written (length B.sheets) (length B.questions) (length B.codes) (length B.combinations) (length second.marks) (length second.supports) lists).0 in
      ap (λ (n : ℕ). n % 8) (leaves second o' kept' (b'.sheets, b'.marks)).long ∙ w

  bits-tighter : (i j : ℕ) → Dec (i < length o'.marks) → j < 8 → is_set (get_or o'.marks i 0) j ≡ true → is_set (get_or o.marks i 0) j ≡ true
  bits-tighter i j (no d) h e =
      absurd (not-both e (ap (λ (x : ℕ). is_set x j) (get_or-eq_default o'.marks 0 (omega arith)) ∙ none-set j))
  bits-tighter i j (yes l) h e =
      let w : i / 8 < length o'.marks / 8 = omega (arith, l, marks-whole) in
      sym (marks-bit o.marks (leaves first o kept (b.sheets, b.marks)).are-bytes i j (omega (arith, w, marks-long)) h)
      ∙ held-tighter.bits (8 * i + j) (marks-bit o'.marks (leaves second o' kept' (b'.sheets, b'.marks)).are-bytes i j w h ∙ e)

  -- bigger combinations only tighten
  pub only-tightens-bytes : ByteTighter first o second o'
  only-tightens-bytes = record { held = held-tighter; bits = λ i j. bits-tighter i j (dec_lt i (length o'.marks)) }

-- ---- A call after a call

module _ (q : ByteRequest) (o : Outcome) (kept : KeepsBytes q o) (b : IsBytes q) (a : accepts_bytes q ≡ true) where
  abbrev r : Reply
  r = reply (decoded q)

  same-reply : decoded_outcome o ≡ r
  same-reply = decoded-is q o kept (is-whole q a) b.marks b.supports

  module _ (change : Change) (spent : SpentBytes q change) (supports : List ℕ) (bs' : Bytes supports) (long : length supports ≡ length q.supports) (o' : Outcome) (kept' : KeepsBytes (again_bytes q o change supports) o') where
    abbrev q' : ByteRequest
    q' = again_bytes q o change supports

    abbrev r' : Reply
    r' = reply (decoded q')

    decoded-spent : Spent (decoded q) (decoded_change change)
    decoded-spent = go spent
      where
        go : SpentBytes q change → Spent (decoded q) (decoded_change change)
        go (inl e) = inl (ap decoded_change e)
        go (inr e) = inr (ap decoded_change e)

    whole-own : whole_own change ≡ true
    whole-own = go spent
      where
        go : SpentBytes q change → whole_own change ≡ true
        go (inl e) = ap whole_own e
        go (inr e) = ap whole_own e ∙ and_right (whole_lists q.book q.marks q.supports) (whole_own q.change) (is-whole q a)

    -- the lists are as long as those of q
    whole_again : is_whole q' ≡ true
    whole_again =
        let B = q.book in
        let k = leaves q o kept (b.sheets, b.marks) in
        let l = k.only.long in
        let m = k.long in
        and_intro
        ((λ i. whole_change (l i) (length B.questions) (length B.codes) (length B.combinations) (m i) (long i))
        ∙ and_left (whole_lists q.book q.marks q.supports) (whole_own q.change) (is-whole q a))
        whole-own

    -- it is on the same network
    decoded-again : decoded q' ≡ again (decoded q) (decoded_outcome o) (decoded_change change) (entries16 supports)
    decoded-again =
        let N = (decoded q).given.network in
        let same = only-records q.book.sheets o.sheets (leaves q o kept (b.sheets, b.marks)).only in
        λ i. record {
          given = record { network = record { relations = same i; variables = N.variables; values = N.values }; m = q.book.m; members = (decoded q).given.members };
          words = entries64 o.marks;
          supports = entries16 supports;
          counts = counts_in o.sheets;
          change = decoded_change change;
        }

    repeats-again : Repeats (decoded q) (decoded_outcome o) (entries16 supports) r'
    repeats-again =
        subst (λ (x : Request). Repeats (decoded q) (decoded_outcome o) (entries16 supports) (reply x)) (sym decoded-again)
        (subst (λ (x : Reply). Repeats (decoded q) x (entries16 supports) (reply (again (decoded q) x (decoded_change change) (entries16 supports)))) (sym same-reply)
        (repeats (decoded q) (is-accepted q a) (decoded_change change) decoded-spent (entries16 supports)
        (omega (arith, (accepts-supports (decoded q) (is-accepted q a)).1, entries16-length q.supports, entries16-length supports, long))))

    not-refused : r'.answer.kind ≡ 2 → ⊥
    not-refused k =
        refused-not (decoded q) (sym (ap (λ (x : Reply). x.answer.kind) same-reply) ∙ sym (ap (λ n. n.kind) repeats-again.answer) ∙ k) (is-accepted q a)

    pub changes-nothing-bytes : ByteRepeats q o supports o'
    changes-nothing-bytes =
        let left = leaves q o kept (b.sheets, b.marks) in
        let held = (points-1-2 q o kept b.sheets b.marks b.supports).bytes_left a in
        let e = back-accepted q' o' kept' whole_again not-refused in
        record {
          held = subst (Repeats (decoded q) (decoded_outcome o) (entries16 supports)) (sym (decoded-is q' o' kept' whole_again left.are-bytes bs')) repeats-again;
          sheets = ap (λ (x : Outcome). x.sheets) e ∙ ap (with_counts o.sheets) repeats-again.counts ∙ written_held o.sheets left.only.are-bytes;
          marks = ap (λ (x : Outcome). x.marks) e ∙ ap (bytes 8) repeats-again.words ∙ sym held.1;
          same-supports = λ s. ap (λ (x : Outcome). x.supports) e ∙ ap (bytes 2) (repeats-again.same_numbers (ap entries16 s)) ∙ sym held.2;
        }
