-- The listing of combinations on bytes: what is written in front of the bytes lent is what the reply to the bytes' book lists.
-- From the laws of the answer, of entries, and of decoded lists.
use mathlib.Core.Path.{◌≡◌, refl, sym, ap, subst, ◌∙◌}
use mathlib.Core.List.{List, ◌++◌}
use Prim.Native.Nat.{ℕ, ◌*◌, ◌/◌, ◌≤◌}
use native.Mathlib.Nat.{zero-add}
use native.Mathlib.Omega.{arith}
use lib.ListN.{length, take, drop}
use lib.Seq.{paste, take-paste}
use Rattle.model.specs.declared.Enumeration.{Enumeration}
use Rattle.model.specs.declared.Enumeration.TheVariants.{Listed, Refused}
use Rattle.model.specs.Network.{Network}
use Rattle.model.specs.Edges.{max_member_list}
use Rattle.model.specs.Enumeration.{enumeration_numbers, EnumerationReply, enumeration_reply}
use Rattle.model.proofs.Edges.{enumeration_reply-cut}
use Rattle.layout.specs.declared.Shape.{Shape}
use Rattle.layout.specs.Shape.{shape_of, network_of}
use Rattle.layout.proofs.Records.{enumeration_reply-shape_of}
use Rattle.wire.specs.Entries.{entries, entries16, entries32, bytes}
use Rattle.wire.proofs.Entries.{entries16-length}
use Rattle.enumeration.specs.Found.{listed_in, Found}
use Rattle.enumeration.proofs.Answered.{fits, left}
use Rattle.encoding.specs.Records.{records}
use Rattle.encoding.specs.Packed.{packed}
use Rattle.encoding.specs.Call.{byte_network, listing, listing_bytes}

-- ---- What is written

left_is : (a : Enumeration) → (enumeration_numbers a).left ≡ listed_in a
left_is (Listed n) = refl
left_is (Refused f) = refl

module _ (N : Network) (m : ℕ) (lent found : List ℕ) (a : Enumeration) (F : Found a N m (length lent / 2) found) where
  abbrev list : List ℕ
  list = entries16 lent

  abbrev numbers : ℕ
  numbers = listed_in a * m

  found_here : Found a N m (length list) found
  found_here = subst (λ (k : ℕ). Found a N m k found) (sym (entries16-length lent)) F

  -- there is room for it
  pub numbers_fit : (2 * numbers ≤ length lent) × (numbers ≤ max_member_list)
  numbers_fit = let f = fits N m list found_here in (omega (arith, f, entries16-length lent), f.1)

  pub writes-listing : length found ≡ max_member_list → listing (packed (enumeration_numbers a)) (bytes 2 (take numbers found) ++ drop (2 * numbers) lent) ≡ listing_bytes (enumeration_reply N m list) m lent
  writes-listing sized =
      let e : (enumeration_numbers a).left * m ≡ numbers = ap (λ (k : ℕ). k * m) (left_is a) in
      let front : take numbers (paste list 0 found numbers) ≡ take numbers found =
      ap (λ (k : ℕ). take k (paste list 0 found numbers)) (sym (zero-add numbers)) ∙ take-paste list 0 found numbers (omega arith) (omega (arith, numbers_fit, sized))
      in
      sym
      (ap (λ (p : EnumerationReply). listing_bytes p m lent) (sym (left N m list found found_here))
      ∙ ap (λ (k : ℕ). listing (packed (enumeration_numbers a)) (bytes 2 (take k (paste list 0 found numbers)) ++ drop (2 * k) lent)) e
      ∙ ap (λ (xs : List ℕ). listing (packed (enumeration_numbers a)) (bytes 2 xs ++ drop (2 * numbers) lent)) front)

-- ---- Of decoded lists

module _ (sheets questions codes : List ℕ) (S : Shape) (Vs Ws : List ℕ) (es : S ≡ shape_of (records sheets)) (ev : Vs ≡ take 513 (entries 2 (length questions / 2) questions)) (ew : Ws ≡ take 32769 (entries 4 (length codes / 4) codes)) where
  pub decoded-listing : (m : ℕ) (lent : List ℕ) → listing_bytes (enumeration_reply (network_of S Vs Ws) m (entries16 lent)) m lent ≡ listing_bytes (enumeration_reply (byte_network sheets questions codes) m (entries16 lent)) m lent
  unfolding entries16 entries32
  decoded-listing m lent =
      ap (λ (p : EnumerationReply). listing_bytes p m lent)
      ((λ i. enumeration_reply (network_of (es i) (ev i) (ew i)) m (entries16 lent))
      ∙ enumeration_reply-shape_of (records sheets) (take 513 (entries16 questions)) (take 32769 (entries32 codes)) m (entries16 lent)
      ∙ sym (enumeration_reply-cut (byte_network sheets questions codes) m (entries16 lent)))
