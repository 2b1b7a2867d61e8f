-- Several choices at once, on bytes: the call leaves the bytes that choosing the pairs one by one leaves, in any order; and without a pair it
-- is filter. From the same of what the bytes hold, since bytes are those of the entries that they hold.
use mathlib.Core.Path.{◌≡◌, refl, sym, ◌∙◌, ap, subst}
use mathlib.Core.Bool.{Bool, true, false, ◌&&◌, cond}
use mathlib.Core.Option.{none}
use mathlib.Core.Logic.{⊎_elim}
use mathlib.Core.List.Memᴰ
use mathlib.Core.List.{List, [], ◌∷◌, Memᴰ}
use Prim.Native.Nat.{ℕ, ◌/◌, ◌%◌}
use native.Mathlib.Decide.{ℕ_discrete}
use native.Mathlib.Omega.{arith}
use lib.ListN.{length}
use Rattle.model.specs.Lists.{empty, Permutation}
use Rattle.model.specs.Agreement.{Cell}
use Rattle.model.specs.Request.{filter, choose, choose_several, Instance}
use Rattle.model.specs.Fault.{accepts}
use Rattle.model.specs.Reply.{Reply, reply}
use Rattle.model.specs.Calls.{Marks, marks_in, Made, State, Singly, supports_after}
use Rattle.model.specs.Promises.{LeaveAlike}
use Rattle.model.proofs.Bools.{and_left, and_right, and_intro}
use Rattle.model.proofs.Lists.{here}
use Rattle.model.proofs.Edges.{reply-lengths}
use Rattle.model.proofs.Several.{none-filters}
use Rattle.model.proofs.Mission.{filtering}
use Rattle.wire.specs.Entries.{Bytes, entries16, entries32, entries64, bytes}
use Rattle.wire.proofs.Entries.{entries16-length, bytes-length, bytes-bytes, bytes-entries}
use Rattle.encoding.specs.Records.{counts_in, with_counts}
use Rattle.encoding.specs.Whole.{whole_change}
use Rattle.encoding.specs.Packed.{Outcome, outcome, reply_bytes}
use Rattle.encoding.specs.Call.{ByteBook, byte_instance, ByteRequest, byte_request, is_whole, whole_lists, whole_own, not_whole, decoded, accepts_bytes, byte_reply, KeepsBytes}
use Rattle.encoding.proofs.Whole.{whole-written}
use Rattle.theorems.specs.ByteCalls.{decoded_outcome, ByteMarks, ByteRest, book_of, ByteCall, request_of, left_in, ByteMade, is_accepted_byte, ByteState, start_bytes, after_bytes, after_all_bytes, AllKeepBytes, AreBytes, AllBytes, decoded_marks, decoded_call, decoded_made, decoded_all, decoded_state, SinglyBytes, supports_after_bytes, LeaveAlikeBytes, byte_pairs, AtOnceBytes}
use Rattle.theorems.proofs.Bytes.{not-whole, back-refused, back-accepted, lists-whole, decoded-is, points-1-2, kept_self, decoded-all}

-- ---- Bytes are those of the entries that they hold

words-bytes : (bs : List ℕ) → Bytes bs → length bs % 8 ≡ 0 → bytes 8 (entries64 bs) ≡ bs
unfolding entries64
words-bytes bs h w = bytes-entries 8 (length bs / 8) bs (omega arith) h

numbers-bytes : (bs : List ℕ) → Bytes bs → length bs % 2 ≡ 0 → bytes 2 (entries16 bs) ≡ bs
unfolding entries16
numbers-bytes bs h w = bytes-entries 2 (length bs / 2) bs (omega arith) h

-- ---- The supports that one call leaves

-- as many bytes as lent
abbrev AsMany : List ℕ → List ℕ → Type 0
AsMany lent left = (length left ≡ length lent) × Bytes left

module _ (q : ByteRequest) (o : Outcome) (kept : KeepsBytes q o) (b : Bytes q.supports) where
  supports-case : (x : Bool) → is_whole q ≡ x → Dec ((reply (decoded q)).answer.kind ≡ 2) → AsMany q.supports o.supports
  supports-case false e d = subst (λ (p : Outcome). AsMany q.supports p.supports) (sym (not-whole q o kept e)) (refl, b)
  supports-case true e (yes k) = subst (λ (p : Outcome). AsMany q.supports p.supports) (sym (back-refused q o kept e k)) (refl, b)
  supports-case true e (no k) =
      let B = q.book in
      let ns = (reply (decoded q)).supports in
      let numbers-whole = (whole-written (length B.sheets) (length B.questions) (length B.codes) (length B.combinations) (length q.marks) (length q.supports) (lists-whole q o kept e)).1 in
      subst (λ (p : Outcome). AsMany q.supports p.supports) (sym (back-accepted q o kept e k))
      (omega (arith, bytes-length 2 ns, (reply-lengths (decoded q)).1, entries16-length q.supports, numbers-whole), bytes-bytes 2 ns)

  supports-left : AsMany q.supports o.supports
  supports-left = supports-case (is_whole q) refl (ℕ_discrete (reply (decoded q)).answer.kind 2)

-- ---- The single choices, decoded

module _ (R : ByteRest) (s : ByteMarks) (size : ℕ) (whole-lists : (ss : List ℕ) → length ss ≡ size → whole_lists (book_of R s.sheets) s.marks ss ≡ true) where
  abbrev I : Instance
  I = byte_instance (book_of R s.sheets)

  -- one choice
  abbrev single : List ℕ → Cell → ByteCall
  single ss p = record { rest = R; own = none; supports = ss; change = choose p.0 p.1 }

  -- What the bytes of such calls hold.
  record Held (pairs : List Cell) (ss : List ℕ) (made : List ByteMade) : Type 0 where
    pub singly : Singly I (entries16 ss) pairs (decoded_all s made)
    pub numbers : supports_after (entries16 ss) (decoded_all s made) ≡ entries16 (supports_after_bytes ss made)
    pub members : (c : ByteMade) → Memᴰ c made → Memᴰ (decoded_made s c) (decoded_all s made)
    pub as_many : length (supports_after_bytes ss made) ≡ size
    pub are-bytes : Bytes (supports_after_bytes ss made)

  held_cons : (p : Cell) (pairs : List Cell) (ss : List ℕ) (c : ByteMade) (made : List ByteMade) → c.0 ≡ single ss p → length ss ≡ size → Held pairs c.1.supports made → Held (p ∷ pairs) ss (c ∷ made)
  held_cons p pairs ss c made e l h =
      let w : is_whole (request_of s c.0) ≡ true = subst (λ (k : ByteCall). is_whole (request_of s k) ≡ true) (sym e) (and_intro (whole-lists ss l) refl) in
      let all : decoded_all s (c ∷ made) ≡ decoded_made s c ∷ decoded_all s made = ap {B = List Made} (λ b. cond b (decoded_made s c ∷ decoded_all s made) (decoded_all s made)) w in
      record {
        singly = subst (Singly I (entries16 ss) (p ∷ pairs)) (sym all) (ap (decoded_call s) e, h.singly);
        numbers = ap (supports_after (entries16 ss)) all ∙ h.numbers;
        members = λ d m. subst (Memᴰ (decoded_made s d)) (sym all) (⊎_elim (λ f. Memᴰ.head (ap (decoded_made s) f)) (λ n. Memᴰ.tail (h.members d n)) (Memᴰ.cases_cons m));
        as_many = h.as_many;
        are-bytes = h.are-bytes;
      }

  held : (pairs : List Cell) (ss : List ℕ) (st : ByteState) (made : List ByteMade) → length ss ≡ size → Bytes ss → SinglyBytes R ss pairs made → AllKeepBytes st made → Held pairs ss made
  held [] ss st [] l b e keep = record { singly = e; numbers = refl; members = λ c m. absurd (Memᴰ.not-nil m); as_many = l; are-bytes = b }
  held [] ss st (c ∷ made) l b e keep = absurd e
  held (p ∷ pairs) ss st [] l b e keep = absurd e
  held (p ∷ pairs) ss st (c ∷ made) l b e keep =
      let lent = ap (λ (k : ByteCall). k.supports) e.0 in
      let left = supports-left (request_of st.shared c.0) c.1 keep.0 (subst Bytes (sym lent) b) in
      held_cons p pairs ss c made e.0 l (held pairs c.1.supports (after_bytes st c) made (left.0 ∙ ap length lent ∙ l) left.1 e.1 keep.1)

-- ---- At once

module _ (R : ByteRest) (s : ByteMarks) (supports questions codes : List ℕ) (o : Outcome) where
  abbrev q : ByteRequest
  q = byte_request (book_of R s.sheets) s.marks supports (choose_several questions codes)

  module _ (b : AreBytes s) (bs : Bytes supports) (kept : KeepsBytes q o) (ok : accepts_bytes q ≡ true) where
    whole-q : is_whole q ≡ true
    unfolding accepts_bytes
    whole-q = and_left (is_whole q) (accepts (decoded q)) ok

    accepts-q : accepts (decoded q) ≡ true
    unfolding accepts_bytes
    accepts-q = and_right (is_whole q) (accepts (decoded q)) ok

    whole-lists : (ss : List ℕ) → length ss ≡ length supports → whole_lists q.book q.marks ss ≡ true
    whole-lists ss l =
        ap (λ (n : ℕ). whole_change (length s.sheets) (length R.questions) (length R.codes) (length R.combinations) (length s.marks) n) l
        ∙ lists-whole q o kept whole-q

    whole-sizes : (length s.marks % 8 ≡ 0) × (length supports % 2 ≡ 0)
    whole-sizes = whole-written (length s.sheets) (length R.questions) (length R.codes) (length R.combinations) (length s.marks) (length supports) (lists-whole q o kept whole-q)

    same : decoded_outcome o ≡ reply (decoded q)
    same = decoded-is q o kept whole-q b.1 bs

    pub at-once-bytes : AtOnceBytes R s supports questions codes o
    at-once-bytes some_pair order reordered made are single keep =
        let h = held R s (length supports) whole-lists order supports (start_bytes s) made refl bs single keep in
        let d = decoded-all s (start_bytes s) made (kept_self s b) are keep in
        let alike = ((filtering (decoded q) accepts-q).several _ _ refl).singly some_pair order reordered (decoded_all s made) h.singly d.keep in
        let final = (after_all_bytes (start_bytes s) made).shared in
        let left = (points-1-2 q o kept b.0 b.1 bs).bytes_left ok in
        let marks = ap (λ (st : State). st.marks) d.state ∙ alike.marks ∙ sym (ap marks_in same) in
        let sheets-same = d.shared.only.same ∙ ap (λ (m : Marks). with_counts s.sheets m.counts) marks ∙ sym left.0.same in
        let marks-same = sym (words-bytes final.marks d.shared.are-bytes (ap (λ (n : ℕ). n % 8) d.shared.long ∙ whole-sizes.0)) ∙ ap (λ (m : Marks). bytes 8 m.words) marks ∙ sym left.1 in
        record {
          accepted = λ c m. alike.accepted (decoded_made s c) (h.members c m);
          shared = λ i. record { sheets = sheets-same i; marks = marks-same i };
          numbers =
              sym (numbers-bytes (supports_after_bytes supports made) h.are-bytes (ap (λ (n : ℕ). n % 2) h.as_many ∙ whole-sizes.1))
              ∙ ap (bytes 2) (sym h.numbers ∙ alike.numbers ∙ sym (ap (λ (p : Reply). p.supports) same))
              ∙ sym left.2;
        }

-- ---- No pair

pub no-pair-bytes : (B : ByteBook) (marks supports : List ℕ) (o : Outcome) → KeepsBytes (byte_request B marks supports (choose_several [] [])) o → KeepsBytes (byte_request B marks supports filter) o
unfolding byte_reply entries16 entries32
no-pair-bytes B marks supports o kept =
    let q = byte_request B marks supports filter in
    kept
    ∙ ap (λ (r : Reply). cond (is_whole q) (reply_bytes r B.sheets marks supports) (outcome not_whole B.sheets marks supports))
    (none-filters (byte_instance B) (entries64 marks) (entries16 supports) (counts_in B.sheets))
