-- Laws of records with other live counts: the first i of them written, one more, and all that are to be written; and the counts read back.
-- From the definition of `with_live`.
use mathlib.Core.Path.{◌≡◌, refl, sym, ap}
use mathlib.Core.List.{List, [], ◌∷◌, ◌++◌}
use Prim.Native.Nat.{ℕ, zero, suc, ◌≤◌, min}
use native.Mathlib.Nat.{not-suc-le-zero, le_of_suc-le-suc, suc_inj}
use native.Mathlib.Decide.{dec_le}
use native.Mathlib.Omega.{arith}
use lib.ListN.{length, get_or, set, take, drop}
use Rattle.model.specs.declared.Record.{Record}
use Rattle.layout.specs.Shape.{padded}
use Rattle.records.specs.Records.{live_in, counted, with_live, no_record}

pub with_live-none : (Rs : List Record) → with_live Rs [] ≡ Rs
unfolding with_live
with_live-none [] = refl
with_live-none (R ∷ Rs) = refl

pub with_live-length : (Rs : List Record) (counts : List ℕ) → length (with_live Rs counts) ≡ length Rs
unfolding with_live
with_live-length [] counts = refl
with_live-length (R ∷ Rs) [] = refl
with_live-length (R ∷ Rs) (n ∷ counts) = ap suc (with_live-length Rs counts)

-- a count for each record is read back
pub live_in-with_live : (Rs : List Record) (counts : List ℕ) → length counts ≡ length Rs → live_in (with_live Rs counts) ≡ counts
unfolding with_live
live_in-with_live [] [] e = refl
live_in-with_live [] (n ∷ counts) e = absurd (omega (arith, e))
live_in-with_live (R ∷ Rs) [] e = absurd (omega (arith, e))
live_in-with_live (R ∷ Rs) (n ∷ counts) e = ap (λ (ns : List ℕ). n ∷ ns) (live_in-with_live Rs counts (suc_inj e))

-- its own counts change nothing
pub with_live-own : (Rs : List Record) → with_live Rs (live_in Rs) ≡ Rs
unfolding with_live
with_live-own [] = refl
with_live-own (R ∷ Rs) = ap (λ (Qs : List Record). R ∷ Qs) (with_live-own Rs)

-- ---- Counts written one after the other

-- the first i of these counts are written
unfoldable pub written : List Record → List ℕ → ℕ → List Record
written Rs live i = with_live Rs (padded i live)

pub written_none : (Rs : List Record) (live : List ℕ) → written Rs live 0 ≡ Rs
unfolding written padded
written_none Rs live = with_live-none Rs

pub written-length : (Rs : List Record) (live : List ℕ) (i : ℕ) → length (written Rs live i) ≡ length Rs
unfolding written
written-length Rs live i = with_live-length Rs (padded i live)

pub written_next : (Rs : List Record) (live : List ℕ) (i : ℕ) → written Rs live (suc i) ≡ set (written Rs live i) i (counted (get_or (written Rs live i) i no_record) (get_or live i 0))
unfolding written with_live padded
written_next [] live i = refl
written_next (R ∷ Rs) [] zero = ap (λ (Qs : List Record). counted R 0 ∷ Qs) (with_live-none Rs)
written_next (R ∷ Rs) (n ∷ live) zero = ap (λ (Qs : List Record). counted R n ∷ Qs) (with_live-none Rs)
written_next (R ∷ Rs) [] (suc i) = ap (λ (Qs : List Record). counted R 0 ∷ Qs) (written_next Rs [] i)
written_next (R ∷ Rs) (n ∷ live) (suc i) = ap (λ (Qs : List Record). counted R n ∷ Qs) (written_next Rs live i)

-- counts past the last record are not written
written-front : (Rs : List Record) (live : List ℕ) (j k : ℕ) → length Rs ≤ j → length Rs ≤ k → written Rs live j ≡ written Rs live k
unfolding written with_live padded
written-front [] live j k g h = refl
written-front (R ∷ Rs) live zero k g h = absurd (not-suc-le-zero g)
written-front (R ∷ Rs) live (suc j) zero g h = absurd (not-suc-le-zero h)
written-front (R ∷ Rs) [] (suc j) (suc k) g h =
    ap (λ (Qs : List Record). counted R 0 ∷ Qs) (written-front Rs [] j k (le_of_suc-le-suc g) (le_of_suc-le-suc h))
written-front (R ∷ Rs) (n ∷ live) (suc j) (suc k) g h =
    ap (λ (Qs : List Record). counted R n ∷ Qs) (written-front Rs live j k (le_of_suc-le-suc g) (le_of_suc-le-suc h))

pub written_all : (Rs : List Record) (live : List ℕ) (k : ℕ) → written Rs live (min (length Rs) k) ≡ with_live Rs (padded k live)
unfolding written
written_all Rs live k = either (dec_le (length Rs) k)
  where
    either : Dec (length Rs ≤ k) → written Rs live (min (length Rs) k) ≡ with_live Rs (padded k live)
    either (yes h) = written-front Rs live (min (length Rs) k) k (omega (arith, h)) h
    either (no h) = let e : min (length Rs) k ≡ k = omega (arith, h) in ap (written Rs live) e

-- written to the first records, they are written to all
pub written-front_of : (n : ℕ) (Rs : List Record) (live : List ℕ) → written (take n Rs) live n ++ drop n Rs ≡ written Rs live n
unfolding written with_live padded
written-front_of zero Rs live = sym (with_live-none Rs)
written-front_of (suc n) [] live = refl
written-front_of (suc n) (R ∷ Rs) [] = ap (λ (Qs : List Record). counted R 0 ∷ Qs) (written-front_of n Rs [])
written-front_of (suc n) (R ∷ Rs) (k ∷ live) = ap (λ (Qs : List Record). counted R k ∷ Qs) (written-front_of n Rs live)
