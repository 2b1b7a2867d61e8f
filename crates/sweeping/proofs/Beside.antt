-- Laws of the table of relations beside each other, to which one pair of combination and member is added after the other.
-- From the model's laws of live words, and of pairs.
use mathlib.Core.Path.{◌≡◌, refl, sym, ap, subst, ◌∙◌}
use mathlib.Core.Bool.{true}
use mathlib.Core.Logic.{◌⊎◌, inl, inr, ⊎_elim}
use mathlib.Core.List.Memᴰ
use mathlib.Core.List.{List}
use Prim.Native.Nat.{ℕ, ◌+◌, ◌-◌, ◌*◌, ◌/◌, ◌^◌, ◌≤◌, ◌<◌}
use native.Mathlib.Omega.{arith}
use lib.Dec.{eqb}
use lib.ListN.{length, get_or, drop, replicate, get_or-replicate}
use lib.Seq.{get_or-take, get_or-drop}
use borrow.Author.Tests.{eqb-true}
use Rattle.model.specs.Limits.{max_relations, max_tuples}
use Rattle.model.specs.Combination.{Combination, combinations, pair_combination, pair_member}
use Rattle.model.specs.LiveWords.{is_live, raised}
use Rattle.model.proofs.Bools.{or_cases, not-both}
use Rattle.model.proofs.Lists.{get_d-mem}
use Rattle.model.proofs.Combination.{pair-within, pair-length, pair-listed, pair-member}
use Rattle.model.proofs.LiveWords.{raised-is_live, raised-length, raised_below, none-is_live}
use Rattle.live.specs.Words.{WordArray}
use Rattle.layout.specs.Setting.{Whole}
use Rattle.sweeping.specs.Sweep.{Beside, Besides, bit_of, Few, PutAt, Put}

raised-array : (g : ℕ) (table : List ℕ) → WordArray table → WordArray (raised g table)
raised-array g table w =
    record { long = raised-length g table ∙ w.long; small = λ i h. raised_below g table w.small i (omega (arith, raised-length g table)) }

-- ---- One bit after the other

module _ {members : List ℕ} {base r q more : ℕ} {before now : List ℕ} (next : more ≡ q + 1) (p : Put members base q r before now) where
  same : (h : ℕ) → h < max_tuples → is_live now h ≡ true → (is_live before h ≡ true) ⊎ PutAt members base more r h
  same h l e =
      ⊎_elim inl
      (λ a. inr (record { q = a.q; from-base = a.from-base; to_end = omega (arith, a.to_end); other = a.other; bit = a.bit }))
      (p.only h l e)

  -- the member is relation r itself
  pub put_same : Put members base more r before now
  put_same = record { array = p.array; only = same }

  -- the bit of another member
  pub put-more : (s : ℕ) → s ≡ get_or members q 0 → base ≤ q → (s ≡ r → ⊥) → Put members base more r before (raised (bit_of r s) now)
  put-more s is b d =
      record {
        array = raised-array (bit_of r s) now p.array;
        only = λ h l e. ⊎_elim
            (same h l)
            (λ f. inr (record { q = q; from-base = b; to_end = omega arith; other = λ own. d (is ∙ sym own); bit = sym (eqb-true (bit_of r s) h f) ∙ ap (bit_of r) is }))
            (or_cases (is_live now h) (eqb (bit_of r s) h) (sym (raised-is_live (bit_of r s) now p.array.small h (omega (arith, p.array.long))) ∙ e));
      }

-- ---- One pair after the other

pub beside_none : {cs : List Combination} → Besides cs (replicate 64 0)
beside_none =
    record {
      array = record { long = refl; small = λ i h. subst (λ (w : ℕ). w < 2 ^ 64) (sym (get_or-replicate 64 i 0 0 h)) (omega arith) };
      only = λ r s hr hs e. absurd (not-both e (none-is_live 64 (bit_of r s)));
    }

module _ {m : ℕ} {members : List ℕ} (whole : Whole m members) (few : Few members) (p : ℕ) (h : p < length members) where
  abbrev base : ℕ
  base = p / m * m

  abbrev own : ℕ
  own = pair_member members p

  -- relation own and the member at place q of its combination
  pair-beside : (q : ℕ) → base ≤ q → q < base + m → (own ≡ get_or members q 0 → ⊥) → Beside (combinations m members) own (get_or members q 0)
  pair-beside q b e d =
      let c = pair_combination m members p in
      let at : get_or c (q - base) 0 ≡ get_or members q 0 =
      get_or-take m (drop base members) (q - base) 0 (omega arith) ∙ get_or-drop base members (q - base) 0 ∙ ap (λ (i : ℕ). get_or members i 0) (omega arith)
      in
      record {
        combination = c;
        is-listed = pair-listed m members whole.positive whole.whole p h;
        has_r = pair-member m members whole.positive whole.whole p h;
        has-s = Memᴰ.cast (sym at) (get_d-mem c (q - base) 0 (omega (arith, pair-length m members whole.positive whole.whole p h)));
        apart = d;
      }

  pub beside-more : {before after : List ℕ} → Besides (combinations m members) before → Put members base (base + m) own before after → Besides (combinations m members) after
  beside-more t put =
      record {
        array = put.array;
        only = λ r s hr hs e. ⊎_elim (t.only r s hr hs) (λ a. found r s hr hs a) (put.only (bit_of r s) (omega arith) e);
      }
    where
      found : (r s : ℕ) → r < max_relations → s < max_relations → PutAt members base (base + m) own (bit_of r s) → Beside (combinations m members) r s
      found r s hr hs a =
          let o = few p h in
          let n = few a.q (omega (arith, a.to_end, pair-within m members whole.positive whole.whole p h)) in
          let er : own ≡ r = omega (arith, a.bit) in
          let es : get_or members a.q 0 ≡ s = omega (arith, a.bit) in
          subst (λ (x : ℕ). Beside (combinations m members) x s) er (subst (Beside (combinations m members) own) es (pair-beside a.q a.from-base a.to_end a.other))
