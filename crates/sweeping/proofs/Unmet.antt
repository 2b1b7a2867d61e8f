-- Laws of tuples that none of a relation's live tuples agrees with: they are found by the rows of their values, and have no support.
-- From the model's laws of supports, and the law that whatever agrees is in all these rows.
use mathlib.Core.Path.{◌≡◌, sym, ◌∙◌, ap, subst}
use mathlib.Core.Bool.{true, not}
use mathlib.Core.List.{List, Memᴰ}
use mathlib.Core.Logic.{⊎_elim}
use Prim.Native.Nat.{ℕ, ◌+◌, ◌-◌, ◌*◌, ◌≤◌, ◌<◌}
use native.Mathlib.Omega.{arith}
use lib.Dec.{eqb}
use lib.ListN.{length, get_or}
use borrow.Author.Tests.{le-leb, lt-ltb}
use Rattle.model.specs.Limits.{max_relations, word_bits}
use Rattle.model.specs.TupleSet.{has}
use Rattle.model.specs.Network.{Network, size, first_id, total, ids_of, relation_of, values_at}
use Rattle.model.specs.Combination.{Combination}
use Rattle.model.specs.Agreement.{agree}
use Rattle.model.specs.LiveWords.{is_live, living, cleared}
use Rattle.model.proofs.Bools.{and_left, and_intro}
use Rattle.model.proofs.Lists.{all-at, pairwise-at, mem-get_d, from-mem, mem-from}
use Rattle.model.proofs.Network.{ids-below, relation_of-ids, relation_of-at}
use Rattle.model.proofs.Agreement.{agree-sym}
use Rattle.model.proofs.Support.{Supported, is_support-self, is_support-live, is_support-agree, candidates-at}
use Rattle.model.proofs.LiveWords.{living-has, cleared-length, cleared-below}
use Rattle.live.specs.Words.{WordArray}
use Rattle.live.proofs.Stores.{cleared-live}
use Rattle.layout.specs.Starts.{SoundStarts}
use Rattle.layout.specs.Setting.{Lists, network_in}
use Rattle.layout.proofs.SoundStarts.{tuple-end, tuples-few, ids-few}
use Rattle.narrowing.specs.TupleRows.{LiveBetween}
use Rattle.narrowing.proofs.TupleRows.{agreeing-every}
use Rattle.sweeping.specs.Sweep.{bit_of, Unmet, Prepared, Misses, Falls, Covers, combining, Revises, Sweeps}
use Rattle.sweeping.proofs.Shrunk.{shrunk-refl, shrunk-trans, shrunk-removed}

-- ---- Tuples that none agrees with

-- no live tuple of relation s is in every row of the tuple's values
pub misses-unmet : {L : Lists} {index columns : List ℕ} {r s : ℕ} (alive : List ℕ) (x from to : ℕ) → Prepared L index columns r s from to → x < size (network_in L) r → Misses index columns (values_at (network_in L) r x) alive from to → Unmet (network_in L) alive r x s
misses-unmet {L} {r = r} {s} alive x from to p h misses z l live agrees =
    misses (first_id (network_in L) s + z) (omega (arith, p.begins)) (omega (arith, p.ends)) live
    (agreeing-every p.laid p.indexed r x s z h l agrees p.shares)

-- all live ids of relation s are
pub between-covers : (N : Network) (s : ℕ) (words alive : List ℕ) {start end : ℕ} → start ≡ first_id N s → end ≡ first_id N s + size N s → LiveBetween start end words alive → Covers N s words alive
between-covers N s words alive {start} {end} b e between z h live =
    let g = first_id N s + z in
    between g ∙ and_intro live (and_intro (le-leb start g (omega arith)) (lt-ltb g end (omega arith)))

module _ (N : Network) (s : ℕ) (words alive : List ℕ) (covers : Covers N s words alive) where
  pub covers-unmet : (r x : ℕ) → Unmet N alive r x s → Unmet N words r x s
  covers-unmet r x none z h live agrees = none z h (covers z h live) agrees

  pub covers-cleared : (g : ℕ) → g < word_bits * length words → Covers N s (cleared g words) alive
  covers-cleared g l z h live =
      let i = first_id N s + z in
      covers z h (and_left (is_live words i) (not (eqb g i)) (sym (cleared-live words g i l) ∙ live))

module _ (N : Network) (r x s : ℕ) (words : List ℕ) where
  -- a support would hold a live tuple of relation s that agrees
  pub unmet-unsupported : (c : Combination) → x < size N r → Memᴰ s c → (r ≡ s → ⊥) → Unmet N words r x s → Supported N (living (total N) words) c (first_id N r + x) → ⊥
  unmet-unsupported c own m d none (t, k, e) =
      let S = living (total N) words in
      let g = first_id N r + x in
      let j = mem-get_d c 0 m in
      let f = candidates-at N c k j.0 j.1 in
      let h = get_or t j.0 0 in
      let i : Memᴰ h (ids_of N s) = subst (λ (q : ℕ). Memᴰ h (ids_of N q)) j.2 f.1 in
      let b = from-mem (first_id N s) (size N s) h i in
      let z = h - first_id N s in
      let q : h ≡ first_id N s + z = omega (arith, b) in
      let other : g ≡ h → ⊥ = λ p. d (sym (relation_of-at N r x own) ∙ ap (λ (y : ℕ). relation_of N y) p ∙ relation_of-ids N s i) in
      let lives : is_live words h ≡ true = sym (living-has (total N) words h (ids-below N s i)) ∙ all-at (has S) t (is_support-live N S g t e) f.0 in
      let agrees : agree N g h ≡ true = pairwise-at (agree N) (agree-sym N) t (is_support-agree N S g t e) (is_support-self N S g t e) f.0 other in
      none z (omega (arith, b)) (ap (is_live words) (sym q) ∙ lives) (ap (agree N g) (sym q) ∙ agrees)

-- ---- One removal after the other

module _ (L : Lists) where
  pub revises-none : (r s : ℕ) {words : List ℕ} → WordArray words → Revises L r s words words
  revises-none r s {words} w = (w, λ m members _. shrunk-refl (combining L m members) words w.small)

  -- a tuple of relation r that no live tuple of relation s agrees with is removed
  pub revises-more : SoundStarts L.starts → {r s x : ℕ} {words now : List ℕ} → x < size (network_in L) r → Unmet (network_in L) now r x s → Revises L r s words now → Revises L r s words (cleared (first_id (network_in L) r + x) now)
  revises-more framed {r} {s} {x} {words} {now} h none (array, shrunk) =
      let N = network_in L in
      let g = first_id N r + x in
      let below = ids-below N r (mem-from (first_id N r) (size N r) g (omega arith) (omega arith)) in (
        record { long = cleared-length g now ∙ array.long; small = λ i l. cleared-below g now array.small i (omega (arith, cleared-length g now)) },
        λ m members b.
            let G = combining L m members in
            shrunk-trans G words now (cleared g now) (shrunk m members b)
            (shrunk-removed G now g b.combination array.small (omega (arith, array.long, tuples-few framed)) below b.is-listed
            (mathlib.Core.List.Memᴰ.cast (relation_of-at N r x h) b.has_r)
            (unmet-unsupported N r x s now b.combination h b.has-s b.apart none)),
      )

  -- What comes of the test of a tuple: one falls at most, which might fall, and the live tuples of relation s are live in `alive` still.
  pub record Tested (r s : ℕ) (alive words after : List ℕ) (n : ℕ) : Type 0 where
    pub one : n ≤ 1
    pub revises : Revises L r s words after
    pub covers : Covers (network_in L) s after alive

  module _ {index columns : List ℕ} {r s from to : ℕ} (p : Prepared L index columns r s from to) (x g n : ℕ) (alive tuple words now after : List ℕ) (h : x < size (network_in L) r) (id : g ≡ first_id (network_in L) r + x) (values : tuple ≡ values_at (network_in L) r x) (before : Revises L r s words now) (covers : Covers (network_in L) s now alive) where
    kept : (n ≡ 0) × (after ≡ now) → Tested r s alive words after n
    kept (z, e) =
        record {
          one = omega arith;
          revises = subst (Revises L r s words) (sym e) before;
          covers = subst (λ (ws : List ℕ). Covers (network_in L) s ws alive) (sym e) covers;
        }

    fallen : (n ≡ 1) × ((after ≡ cleared g now) × Misses index columns tuple alive from to) → Tested r s alive words after n
    fallen (o, (e, misses)) =
        let N = network_in L in
        let f = p.laid.framed in
        let inside : g < word_bits * length now = omega (arith, id, h, before.0.long, tuple-end f r p.own, ids-few f r p.own) in
        let missed = subst (λ (vs : List ℕ). Misses index columns vs alive from to) values misses in
        let none = covers-unmet N s now alive covers r x (misses-unmet alive x from to p h missed) in
        record {
          one = omega arith;
          revises = subst (Revises L r s words) (sym (e ∙ ap (λ (i : ℕ). cleared i now) id)) (revises-more f {now = now} h none before);
          covers = subst (λ (ws : List ℕ). Covers N s ws alive) (sym e) (covers-cleared N s now alive covers g inside);
        }

    pub falls-tested : Falls index columns tuple alive from to g now after n → Tested r s alive words after n
    falls-tested falls = ⊎_elim kept fallen falls

module _ {L : Lists} {table : List ℕ} where
  pub sweeps-none : {words : List ℕ} → WordArray words → Sweeps L table words words
  sweeps-none {words} w = (w, λ m members _. shrunk-refl (combining L m members) words w.small)

  pub sweeps-then : {words now after : List ℕ} → Sweeps L table words now → Sweeps L table now after → Sweeps L table words after
  sweeps-then {words} {now} {after} a b =
      (b.0, λ m members t. shrunk-trans (combining L m members) words now after (a.1 m members t) (b.1 m members t))

  -- two relations that the table has
  pub revises-sweeps : {words after : List ℕ} (r s : ℕ) → r < max_relations → s < max_relations → is_live table (bit_of r s) ≡ true → Revises L r s words after → Sweeps L table words after
  revises-sweeps r s hr hs e a = (a.0, λ m members t. a.1 m members (t.only r s hr hs e))
