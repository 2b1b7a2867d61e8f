-- The promise of the listing of connected combinations from C, on bytes, from nothing but its contract.
-- From that of the call on lists, and the laws of entries and of packed answers.
use mathlib.Core.Path.{◌≡◌, refl, sym, ◌∙◌, ap, ap₂, subst}
use mathlib.Core.Bool.{Bool, true, false, ◌&&◌, cond}
use mathlib.Core.List.{List, ◌++◌}
use Prim.Native.Nat.{ℕ, ◌*◌, ◌/◌, ◌%◌, ◌≤◌, ◌<◌}
use native.Mathlib.Omega.{arith}
use borrow.Author.Tests.{eqb-true}
use lib.Dec.{eqb}
use lib.ListN.{length, get_or, take, drop, take-append-drop, length-append, length-drop}
use lib.Seq.{length-take-le, drop_at}
use Rattle.model.specs.Network.{Network}
use Rattle.model.specs.Enumeration.{EnumerationReply, enumeration_reply}
use Rattle.model.specs.Promises.{EnumerationAnswered}
use Rattle.model.proofs.Bools.{and_right}
use Rattle.model.proofs.Enumerated.{enumeration-answered, enumeration-room, enumeration-kept, enumeration-members-below}
use Rattle.wire.specs.Entries.{Bytes, entries, entries16, bytes}
use Rattle.wire.proofs.Entries.{entries16-length, entries_below, bytes-length, bytes-append, bytes-behind, bytes-entries, entries16-bytes}
use Rattle.encoding.specs.Whole.{whole, whole_network}
use Rattle.encoding.specs.Packed.{packed, unpacked, enumerated_in}
use Rattle.encoding.specs.Call.{ByteBook, byte_network, not_whole, Listing, listing, whole_book_and_list, listing_bytes, byte_enumeration, EnumeratesBytes}
use Rattle.encoding.proofs.Packed.{enumeration-unpacked}
use Rattle.theorems.specs.ByteCalls.{decoded_listing, ByteEnumerationAnswered}

module _ (B : ByteBook) (o : Listing) (kept : EnumeratesBytes B o) where
  abbrev lent : List ℕ
  lent = B.combinations

  abbrev list : List ℕ
  list = entries16 lent

  abbrev network : Network
  network = byte_network B.sheets B.questions B.codes

  abbrev p : EnumerationReply
  p = enumeration_reply network B.m list

  abbrev numbers : ℕ
  numbers = p.answer.left * B.m

  chosen : (b : Bool) → whole_book_and_list B ≡ b → o ≡ cond b (listing_bytes p B.m lent) (listing not_whole lent)
  unfolding byte_enumeration
  chosen b e = kept ∙ ap (λ (x : Bool). cond x (listing_bytes p B.m lent) (listing not_whole lent)) e

  module _ (w : whole_book_and_list B ≡ true) where
    is : o ≡ listing_bytes p B.m lent
    is = chosen true w

    says : unpacked o.answer ≡ p.answer
    says = ap (λ (q : Listing). unpacked q.answer) is ∙ enumeration-unpacked network B.m list

    room : numbers ≤ length list
    room = enumeration-room network B.m list

    even : length lent % 2 ≡ 0
    even = eqb-true (length lent % 2) 0 (and_right (whole_network (length B.sheets) (length B.questions) (length B.codes)) (whole 2 (length lent)) w)

    front_long : length (bytes 2 (take numbers p.members)) ≡ 2 * numbers
    front_long =
        let a = enumeration-answered network B.m list in
        let l = length-take-le numbers p.members (omega (arith, a.long, room)) in
        omega (arith, bytes-length 2 (take numbers p.members), l)

    whole_long : length o.combinations ≡ length lent
    whole_long =
        ap (λ (q : Listing). length q.combinations) is
        ∙ omega (arith, length-append (bytes 2 (take numbers p.members)) (drop (2 * numbers) lent), front_long, length-drop (2 * numbers) lent, room, entries16-length lent)

    whole-behind : drop (2 * numbers) o.combinations ≡ drop (2 * numbers) lent
    whole-behind =
        ap (λ (q : Listing). drop (2 * numbers) q.combinations) is
        ∙ drop_at (bytes 2 (take numbers p.members)) (drop (2 * numbers) lent) (2 * numbers) front_long

    module _ (b : Bytes lent) where
      held : bytes 2 list ≡ lent
      unfolding entries16
      held = bytes-entries 2 (length lent / 2) lent (omega (arith, even)) b

      small : (i : ℕ) → get_or list i 0 < 65536
      unfolding entries16
      small i = entries_below 2 (length lent / 2) lent b i

      -- the bytes are those of the list that the reply leaves
      members-are : bytes 2 (take numbers p.members) ++ drop (2 * numbers) lent ≡ bytes 2 p.members
      members-are =
          let a = enumeration-answered network B.m list in
          let k : 2 * length (take numbers list) ≡ 2 * numbers = ap (λ (n : ℕ). 2 * n) (length-take-le numbers list room) in
          ap (λ (xs : List ℕ). bytes 2 (take numbers p.members) ++ xs)
          (sym (bytes-behind 2 numbers list lent held ∙ ap (λ (n : ℕ). drop n lent) k) ∙ ap (bytes 2) (sym a.behind))
          ∙ sym (bytes-append 2 (take numbers p.members) (drop numbers p.members))
          ∙ ap (bytes 2) (take-append-drop numbers p.members)

      decoded-is : decoded_listing o ≡ p
      decoded-is =
          let e = ap (λ (q : Listing). entries16 q.combinations) is ∙ ap entries16 members-are ∙ entries16-bytes p.members (enumeration-members-below network B.m list small) in
          λ i. record { answer = says i; members = e i }

    refused-lent : (unpacked o.answer).kind ≡ 2 → o.combinations ≡ lent
    refused-lent k =
        let none : numbers ≡ 0 = enumeration-kept network B.m list (sym (ap (λ a. a.kind) says) ∙ k) in
        ap (λ (q : Listing). q.combinations) is
        ∙ ap (λ (n : ℕ). bytes 2 (take n p.members) ++ drop (2 * n) lent) none

  -- a list that is not whole
  long-for : (b : Bool) → whole_book_and_list B ≡ b → length o.combinations ≡ length lent
  long-for true e = whole_long e
  long-for false e = ap (λ (q : Listing). length q.combinations) (chosen false e)

  behind-for : (b : Bool) → whole_book_and_list B ≡ b → drop (2 * ((unpacked o.answer).left * B.m)) o.combinations ≡ drop (2 * ((unpacked o.answer).left * B.m)) lent
  behind-for true e =
      ap (λ (n : ℕ). drop (2 * (n * B.m)) o.combinations) (ap (λ a. a.left) (says e))
      ∙ whole-behind e
      ∙ sym (ap (λ (n : ℕ). drop (2 * (n * B.m)) lent) (ap (λ a. a.left) (says e)))
  behind-for false e = ap (λ (xs : List ℕ). drop (2 * ((unpacked o.answer).left * B.m)) xs) (ap (λ (q : Listing). q.combinations) (chosen false e))

  refused-for : (b : Bool) → whole_book_and_list B ≡ b → (unpacked o.answer).kind ≡ 2 → o.combinations ≡ lent
  refused-for true e k = refused-lent e k
  refused-for false e k = ap (λ (q : Listing). q.combinations) (chosen false e)

  pub enumeration-promise-bytes : Bytes lent → ByteEnumerationAnswered B o
  enumeration-promise-bytes b =
      record {
        whole = λ w. subst (EnumerationAnswered network B.m list) (sym (decoded-is w b)) (enumeration-answered network B.m list);
        not-whole = chosen false;
        refused = refused-for (whole_book_and_list B) refl;
        long = long-for (whole_book_and_list B) refl;
        behind = behind-for (whole_book_and_list B) refl;
      }
