-- Laws of the last member: the first of its live tuples that fits a seeking tuple and those chosen makes its support, and where none does, or
-- the seeking tuple clashes with one chosen, there is none.
-- From what `first_fitting` and `agrees_before` ensure, and the laws of the tuples chosen.
use mathlib.Core.Path.{◌≡◌, refl, sym, ◌∙◌, ap, ap₂, subst}
use mathlib.Core.Bool.{Bool, true, false}
use mathlib.Core.List.Memᴰ
use mathlib.Core.List.{List, ◌∷◌}
use mathlib.Core.Logic.{inl}
use Prim.Native.Nat.{ℕ, ◌-◌, ◌≤◌, ◌<◌}
use native.Mathlib.Decide.{ℕ_discrete, dec_lt}
use native.Mathlib.Omega.{arith}
use lib.ListN.{length, get_or, take, set, length-set}
use lib.Seq.{get_or-take, length-take-le, get_or-set_same, get_or-set_other}
use Rattle.model.specs.Lists.{all, earlier}
use Rattle.model.specs.Network.{Network, first_id}
use Rattle.model.specs.Agreement.{agree}
use Rattle.model.specs.LiveWords.{is_live}
use Rattle.model.proofs.Bools.{not-both}
use Rattle.model.proofs.Lists.{here, all-at, all-intro, earlier-least}
use Rattle.model.proofs.Agreement.{agree-sym}
use Rattle.support.specs.Search.{chosen_ids, fits, Trial, FittingAt, FirstFitting}
use Rattle.support.proofs.Chosen.{chosen-mem, chosen_of, fits_all, fits_each}
use Rattle.together.specs.Together.{Joint, net_of, tuple_at, size_at, SoundJoint, Before, SeekAt, LastAt, AgreesAll, AgreesBefore, Completes}
use Rattle.together.proofs.Places.{ids_at, behind}

module _ {Q : Joint} {index : List ℕ} {k : ℕ} {chosen : List ℕ} {x : ℕ} (A : LastAt Q index k chosen x) (sized : length chosen ≡ 4) where
  abbrev N : Network
  N = net_of Q

  abbrev c : List ℕ
  c = Q.members

  abbrev T : SeekAt Q index k chosen
  T = A.turn

  abbrev S : SoundJoint Q index
  S = T.sound

  -- the tuples chosen, with the seeking one
  abbrev own : List ℕ
  own = set chosen Q.place x

  own-here : get_or own Q.place 0 ≡ x
  own-here = get_or-set_same chosen Q.place x 0 (omega (arith, sized, S.place, S.members.few))

  own-other : (j : ℕ) → (j ≡ Q.place → ⊥) → get_or own j 0 ≡ get_or chosen j 0
  own-other j d = get_or-set_other chosen Q.place j x 0 d

  -- ---- What the search of a tuple of member k asks

  own-within : (j : ℕ) → j < k → get_or own j 0 < size_at Q j
  own-within j h = go (ℕ_discrete j Q.place)
    where
      go : Dec (j ≡ Q.place) → get_or own j 0 < size_at Q j
      go (yes q) = subst (λ (i : ℕ). get_or own i 0 < size_at Q i) (sym q) (subst (λ (z : ℕ). z < size_at Q Q.place) (sym own-here) A.own)
      go (no d) = subst (λ (z : ℕ). z < size_at Q j) (sym (own-other j d)) (T.begun.within j (record { below = h; other = d }))

  trial : (z : ℕ) → z < size_at Q k → Trial Q.lists c Q.place x k own z
  trial z h =
      record {
        laid = S.laid;
        inside = T.inside;
        few = S.members.few;
        place_in = S.place;
        own_in = A.own;
        index = h;
        within = own-within;
        own-chosen = λ l. own-here;
      }

  pub fitting-at : (first : ℕ) → first ≡ tuple_at Q k 0 → FittingAt Q.lists index c Q.place x k own first Q.place x
  fitting-at first e =
      record {
        trials = record { laid = S.laid; inside = T.inside; few = S.members.few; relation = (ids_at S k T.inside).relation; each = trial };
        indexed = S.indexed;
        from_first = omega (arith, e);
        to_end = omega (arith, e);
        by-inside = S.place;
        by-own = A.own;
        fixed = inl (refl, refl);
      }

  module _ (words : List ℕ) where
    -- ---- None

    module _ (is : List ℕ) (C : Completes Q k chosen words x is) where
      own_is : (j : ℕ) → j < k → get_or own j 0 ≡ get_or is j 0
      own_is j h = go (ℕ_discrete j Q.place)
        where
          go : Dec (j ≡ Q.place) → get_or own j 0 ≡ get_or is j 0
          go (yes q) = ap (λ (i : ℕ). get_or own i 0) q ∙ own-here ∙ sym C.own ∙ ap (λ (i : ℕ). get_or is i 0) (sym q)
          go (no d) = own-other j d ∙ sym (C.before j (record { below = h; other = d }))

      -- its tuple of member k fits
      completes-fits : fits N c Q.place x k own (get_or is k 0) ≡ true
      completes-fits =
          fits_all N c Q.place x k own (get_or is k 0)
          (ap (λ (z : ℕ). agree N (tuple_at Q Q.place z) (tuple_at Q k (get_or is k 0))) (sym C.own) ∙ C.agreeing Q.place k S.place T.inside (λ q. T.other (sym q)))
          (all-intro (λ (y : ℕ). agree N y (tuple_at Q k (get_or is k 0))) (chosen_ids N c own k)
          (λ y m.
          let i = chosen_of N c own k m in
          ap (λ (g : ℕ). agree N g (tuple_at Q k (get_or is k 0))) (sym i.2 ∙ ap (tuple_at Q i.0) (own_is i.0 i.1))
          ∙ C.agreeing i.0 k (omega (arith, i.1, T.inside)) T.inside (λ q. omega (arith, q, i.1))))

      -- it is not among those passed over
      pub fits-from : (first g : ℕ) → first ≡ tuple_at Q k 0 → FirstFitting N c Q.place x k own words first g → g ≤ tuple_at Q k (get_or is k 0)
      fits-from first g e F = go (dec_lt (tuple_at Q k (get_or is k 0)) g)
        where
          go : Dec (tuple_at Q k (get_or is k 0) < g) → g ≤ tuple_at Q k (get_or is k 0)
          go (no l) = omega arith
          go (yes l) =
              let i : tuple_at Q k (get_or is k 0) - first_id N (get_or c k 0) ≡ get_or is k 0 = omega arith in
              absurd
              (not-both completes-fits
              (ap (fits N c Q.place x k own) (sym i)
              ∙ F.none_before (tuple_at Q k (get_or is k 0)) (omega (arith, e)) l (C.behind k (omega arith) T.inside T.other)))

    pub none-fits : (first g : ℕ) → first ≡ tuple_at Q k 0 → FirstFitting N c Q.place x k own words first g → tuple_at Q k (size_at Q k) ≤ g → (is : List ℕ) → Completes Q k chosen words x is → ⊥
    none-fits first g e F l is C = omega (arith, fits-from is C first g e F, l, C.within k T.inside)

    pub none-clash : (b : Bool) → AgreesBefore Q k chosen Q.place x b → b ≡ false → (is : List ℕ) → Completes Q k chosen words x is → ⊥
    none-clash b B e is C =
        B.wrong e
        (λ j d.
        ap₂ (agree N) (ap (tuple_at Q j) (sym (C.before j d))) (ap (tuple_at Q Q.place) (sym C.own))
        ∙ C.agreeing j Q.place (omega (arith, d.below, T.inside)) S.place d.other)

    -- ---- The first that fits

    module _ (first g : ℕ) (e : first ≡ tuple_at Q k 0) (F : FirstFitting N c Q.place x k own words first g) (below : g < tuple_at Q k (size_at Q k)) (agrees : AgreesAll Q k chosen Q.place x) where
      -- its index
      abbrev z : ℕ
      z = g - first

      abbrev tuples : List ℕ
      tuples = set own k z

      abbrev pub support : List ℕ
      support = take (length c) tuples

      id-z : tuple_at Q k z ≡ g
      id-z = omega (arith, e, F.from_on)

      tuples-long : length tuples ≡ 4
      tuples-long = length-set own k z ∙ length-set chosen Q.place x ∙ sized

      long : length support ≡ length c
      long = length-take-le (length c) tuples (omega (arith, tuples-long, S.members.few))

      -- the tuple at each place
      at-k : get_or support k 0 ≡ z
      at-k = get_or-take (length c) tuples k 0 T.inside ∙ get_or-set_same own k z 0 (omega (arith, length-set chosen Q.place x, sized, T.inside, S.members.few))

      at_place : get_or support Q.place 0 ≡ x
      at_place = get_or-take (length c) tuples Q.place 0 S.place ∙ get_or-set_other own k Q.place z 0 (λ q. T.other (sym q)) ∙ own-here

      at_before : (j : ℕ) → Before Q k j → get_or support j 0 ≡ get_or chosen j 0
      at_before j b =
          get_or-take (length c) tuples j 0 (omega (arith, b.below, T.inside))
          ∙ get_or-set_other own k j z 0 (λ q. omega (arith, q, b.below))
          ∙ own-other j b.other

      -- A place is one before k, or the seeking member's, or k.
      data Kind (j : ℕ) : Type 0 where
        earlier-one : Before Q k j → Kind j
        seeking : j ≡ Q.place → Kind j
        last : j ≡ k → Kind j

      kind : (j : ℕ) → j < length c → Kind j
      kind j h = go (ℕ_discrete j Q.place) (ℕ_discrete j k)
        where
          go : Dec (j ≡ Q.place) → Dec (j ≡ k) → Kind j
          go (yes p) q = seeking p
          go (no p) (yes q) = last q
          go (no p) (no q) = earlier-one (record { below = let u = (behind Q k T.other).up_to j (omega (arith, h, A.last)) p in omega (arith, u, q); other = p })

      -- the id of its tuple
      abbrev id-at : (j : ℕ) → Kind j → ℕ
      id-at j (earlier-one b) = tuple_at Q j (get_or chosen j 0)
      id-at j (seeking p) = tuple_at Q Q.place x
      id-at j (last q) = tuple_at Q k z

      is_at : (j : ℕ) (d : Kind j) → tuple_at Q j (get_or support j 0) ≡ id-at j d
      is_at j (earlier-one b) = ap (tuple_at Q j) (at_before j b)
      is_at j (seeking p) = ap (λ (i : ℕ). tuple_at Q i (get_or support i 0)) p ∙ ap (tuple_at Q Q.place) at_place
      is_at j (last q) = ap (λ (i : ℕ). tuple_at Q i (get_or support i 0)) q ∙ ap (tuple_at Q k) at-k

      -- the new tuple agrees with the seeking one, and with those chosen
      fitting : all (λ (y : ℕ). agree N y (tuple_at Q k z)) (tuple_at Q Q.place x ∷ chosen_ids N c own k) ≡ true
      fitting = fits_each N c Q.place x k own z (ap (fits N c Q.place x k own) (omega (arith, e)) ∙ F.fitting (omega (arith, below)))

      fits-own : agree N (tuple_at Q Q.place x) (tuple_at Q k z) ≡ true
      fits-own = all-at (λ (y : ℕ). agree N y (tuple_at Q k z)) (tuple_at Q Q.place x ∷ chosen_ids N c own k) fitting here

      fits-before : (j : ℕ) → Before Q k j → agree N (tuple_at Q j (get_or chosen j 0)) (tuple_at Q k z) ≡ true
      fits-before j b =
          ap (λ (i : ℕ). agree N (tuple_at Q j i) (tuple_at Q k z)) (sym (own-other j b.other))
          ∙ all-at (λ (y : ℕ). agree N y (tuple_at Q k z)) (tuple_at Q Q.place x ∷ chosen_ids N c own k) fitting (Memᴰ.tail (chosen-mem N c own k j b.below))

      meet : (i j : ℕ) (a : Kind i) (b : Kind j) → (i ≡ j → ⊥) → agree N (id-at i a) (id-at j b) ≡ true
      meet i j (earlier-one a) (earlier-one b) d = T.begun.agreeing i j a b d
      meet i j (earlier-one a) (seeking p) d = agrees i a
      meet i j (earlier-one a) (last q) d = fits-before i a
      meet i j (seeking p) (earlier-one b) d = agree-sym N (tuple_at Q Q.place x) (tuple_at Q j (get_or chosen j 0)) ∙ agrees j b
      meet i j (seeking p) (seeking q) d = absurd (d (p ∙ sym q))
      meet i j (seeking p) (last q) d = fits-own
      meet i j (last q) (earlier-one b) d = agree-sym N (tuple_at Q k z) (tuple_at Q j (get_or chosen j 0)) ∙ fits-before j b
      meet i j (last q) (seeking p) d = agree-sym N (tuple_at Q k z) (tuple_at Q Q.place x) ∙ fits-own
      meet i j (last p) (last q) d = absurd (d (p ∙ sym q))

      z-in : z < size_at Q k
      z-in = omega (arith, e, below, F.from_on)

      within : (j : ℕ) → Kind j → get_or support j 0 < size_at Q j
      within j (earlier-one b) = subst (λ (i : ℕ). i < size_at Q j) (sym (at_before j b)) (T.begun.within j b)
      within j (seeking p) = subst (λ (i : ℕ). get_or support i 0 < size_at Q i) (sym p) (subst (λ (i : ℕ). i < size_at Q Q.place) (sym at_place) A.own)
      within j (last q) = subst (λ (i : ℕ). get_or support i 0 < size_at Q i) (sym q) (subst (λ (i : ℕ). i < size_at Q k) (sym at-k) z-in)

      lives : (j : ℕ) → k ≤ j → (j ≡ Q.place → ⊥) → (d : Kind j) → is_live words (id-at j d) ≡ true
      lives j h o (earlier-one b) = absurd (omega (arith, h, b.below))
      lives j h o (seeking p) = absurd (o p)
      lives j h o (last q) = ap (is_live words) id-z ∙ F.comes.lives (omega (arith, below))

      pub completes-last : Completes Q k chosen words x support
      completes-last =
          record {
            long = long;
            within = λ j h. within j (kind j h);
            agreeing = λ i j h l d. ap₂ (agree N) (is_at i (kind i h)) (is_at j (kind j l)) ∙ meet i j (kind i h) (kind j l) d;
            own = at_place;
            before = at_before;
            behind = λ j h l o. ap (is_live words) (is_at j (kind j l)) ∙ lives j h o (kind j l);
          }

      -- no other has a lower tuple anywhere
      least : (us : List ℕ) → Completes Q k chosen words x us → (j : ℕ) → Kind j → get_or support j 0 ≤ get_or us j 0
      least us C j (earlier-one b) = let s = at_before j b in let u = C.before j b in omega (arith, s, u)
      least us C j (seeking p) = subst (λ (i : ℕ). get_or support i 0 ≤ get_or us i 0) (sym p) (omega (arith, at_place, C.own))
      least us C j (last q) = subst (λ (i : ℕ). get_or support i 0 ≤ get_or us i 0) (sym q) (omega (arith, at-k, id-z, fits-from us C first g e F))

      pub lowest-last : (us : List ℕ) → Completes Q k chosen words x us → earlier us support ≡ false
      lowest-last us C = earlier-least us support (λ j h. least us C j (kind j (omega (arith, h, C.long))))
