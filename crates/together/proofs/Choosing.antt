-- Laws of words narrowed for a tuple chosen: what completes those chosen is kept, and so supports are the same in fewer words.
-- From what narrowing ensures, and the laws of ids and of members.
use mathlib.Core.Path.{◌≡◌, sym, ◌∙◌, ap}
use mathlib.Core.Bool.{true}
use mathlib.Core.List.{List}
use Prim.Native.Nat.{ℕ, ◌<◌}
use native.Mathlib.Decide.{ℕ_discrete}
use native.Mathlib.Omega.{arith}
use lib.ListN.{length, get_or, set}
use Rattle.model.specs.Network.{Network, first_id}
use Rattle.model.specs.Agreement.{agree}
use Rattle.model.specs.LiveWords.{is_live}
use Rattle.model.proofs.Bools.{not-both}
use Rattle.model.proofs.Network.{ids-apart}
use Rattle.value_index.specs.Index.{row_bit}
use Rattle.narrowing.specs.Narrows.{KeptIds, Dead, Narrowed, Bare, Others}
use Rattle.spreading.proofs.Relations.{kept-both, kept-inside, kept-outside}
use Rattle.spreading.proofs.Kept.{differ}
use Rattle.support.specs.Search.{place_behind}
use Rattle.together.specs.Together.{Joint, net_of, tuple_at, size_at, own_size, own_at, SoundJoint, SeekAt, ChooseAt, Completes, NoneLeft, Taken, Seeks}
use Rattle.together.proofs.Places.{ids_at, behind, completes-own}

module _ {Q : Joint} {index : List ℕ} {k : ℕ} {chosen : List ℕ} {y : ℕ} (A : ChooseAt Q index k chosen y) (sized : length chosen ≡ 4) where
  abbrev N : Network
  N = net_of Q

  abbrev c : List ℕ
  c = Q.members

  abbrev T : SeekAt Q index k chosen
  T = A.turn

  abbrev S : SoundJoint Q index
  S = T.sound

  abbrev on : ℕ
  on = place_behind Q.place k

  abbrev more : List ℕ
  more = set chosen k y

  k-in : k < length chosen
  k-in = omega (arith, sized, T.inside, S.members.few)

  -- the members behind are other relations
  pub others-behind : Others c Q.place on (get_or c k 0)
  others-behind =
      record {
        few = λ j l. (ids_at S j l.inside).relation;
        other = λ j l e. differ N c S.members j k l.inside T.inside (λ q. omega (arith, q, l.from-k, (behind Q k T.other).past)) e;
      }

  -- and so is the seeking tuples'
  pub own-differs : get_or c Q.place 0 ≡ get_or c k 0 → ⊥
  own-differs e = differ N c S.members Q.place k S.place T.inside (λ q. T.other (sym q)) e

  module _ (pending : List ℕ) where
    -- no id is raised, and a tuple that agrees with y stays, if it is not one of the seeking member's that does not seek
    abbrev pub Keeping : List ℕ → List ℕ → Type 0
    Keeping before after =
        ((g : ℕ) → is_live after g ≡ true → is_live before g ≡ true)
        × ((j z : ℕ) → j < length c → z < size_at Q j → (j ≡ Q.place → is_live pending (tuple_at Q j z) ≡ true) → agree N (tuple_at Q k y) (tuple_at Q j z) ≡ true → is_live before (tuple_at Q j z) ≡ true → is_live after (tuple_at Q j z) ≡ true)

    -- the seeking member narrowed to the tuples that seek
    pub keeping-pending : (start end : ℕ) (before after : List ℕ) → start ≡ tuple_at Q Q.place 0 → end ≡ tuple_at Q Q.place (own_size Q) → KeptIds (row_bit pending 0) start end before after → Keeping before after
    keeping-pending start end before after es ee kept = (
      kept-inside N own start end before pending after begin ee kept,
      λ j z h l p a e. go j z h l p e (ℕ_discrete j Q.place),
    )
      where
        own : ℕ
        own = get_or c Q.place 0

        begin : start ≡ first_id N own
        begin = omega (arith, es)

        go : (j z : ℕ) → j < length c → z < size_at Q j → (j ≡ Q.place → is_live pending (tuple_at Q j z) ≡ true) → is_live before (tuple_at Q j z) ≡ true → Dec (j ≡ Q.place) → is_live after (tuple_at Q j z) ≡ true
        go j z h l p e (yes q) = kept-both start end before pending after kept (tuple_at Q j z) e (p q)
        go j z h l p e (no d) =
            kept-outside N own start end before pending after begin ee kept (tuple_at Q j z) (ids-apart N (get_or c j 0) z own l (λ q. differ N c S.members Q.place j S.place h (λ i. d (sym i)) q)) ∙ e

    -- narrowed further for y
    pub keeping-on : (before mid after : List ℕ) → Keeping before mid → Narrowed N (tuple_at Q k y) mid after → Keeping before after
    keeping-on before mid after K W = (
      λ g e. K.0 g (W.inside g e),
      λ j z h l p a e. W.keeps (get_or c j 0) z l a (K.1 j z h l p a e),
    )

    module _ (before after : List ℕ) (K : Keeping before after) where
      -- what completes those chosen is kept, with the seeking tuple
      module _ (x : ℕ) (is : List ℕ) (h : x < own_size Q) (lives : is_live before (own_at Q x) ≡ true) (seeks : is_live pending (own_at Q x) ≡ true) (C : Completes Q on more before x is) where
        -- y agrees with each other tuple
        agrees : (j : ℕ) → j < length c → (k ≡ j → ⊥) → agree N (tuple_at Q k y) (tuple_at Q j (get_or is j 0)) ≡ true
        agrees j l d =
            ap (λ (z : ℕ). agree N (tuple_at Q k z) (tuple_at Q j (get_or is j 0))) (sym (completes-own Q k chosen y k-in T.other before x is C))
            ∙ C.agreeing k j T.inside l d

        pub seeker-kept : is_live after (own_at Q x) ≡ true
        seeker-kept =
            K.1 Q.place x S.place h (λ e. seeks)
            (ap (λ (z : ℕ). agree N (tuple_at Q k y) (tuple_at Q Q.place z)) (sym C.own) ∙ agrees Q.place S.place T.other) lives

        pub completes-kept : Completes Q on more after x is
        completes-kept =
            record {
              long = C.long;
              within = C.within;
              agreeing = C.agreeing;
              own = C.own;
              before = C.before;
              behind = λ j l i o. K.1 j (get_or is j 0) i (C.within j i) (λ q. absurd (o q)) (agrees j i (λ q. omega (arith, q, l, (behind Q k T.other).past))) (C.behind j l i o);
            }

      -- ---- None

      pub none-dead : Dead N (get_or c Q.place 0) after → NoneLeft Q on more before pending
      none-dead D x is h l p C = not-both (seeker-kept x is h l p C) (D x h)

      pub none_bare : Bare N c Q.place on after → NoneLeft Q on more before pending
      none_bare E x is h l p C =
          let L = E.later in
          not-both ((completes-kept x is h l p C).behind E.j L.from-k L.inside L.other) (E.dead (get_or is E.j 0) (C.within E.j L.inside))

      -- ---- The same in all words

      wider : (x : ℕ) (is : List ℕ) → Completes Q on more after x is → Completes Q on more before x is
      wider x is C =
          record {
            long = C.long;
            within = C.within;
            agreeing = C.agreeing;
            own = C.own;
            before = C.before;
            behind = λ j l i o. K.0 (tuple_at Q j (get_or is j 0)) (C.behind j l i o);
          }

      pub seeks-wider : {start : ℕ} {last numbers numbers_after : List ℕ} {left : ℕ} → Seeks Q start on more after pending last numbers numbers_after left → Seeks Q start on more before pending last numbers numbers_after left
      seeks-wider {start} {last} {numbers} {numbers_after} F =
          record {
            takes = record { frames = F.takes.frames; taken = λ x h b a. taken x h b (F.takes.taken x h b a) };
            none = λ n x is h l p C. let b = F.takes.frames.inside (own_at Q x) p in F.none n x is h (seeker-kept x is h l b C) p (completes-kept x is h l b C);
          }
        where
          taken : (x : ℕ) → x < own_size Q → is_live pending (own_at Q x) ≡ true → Taken Q start on more after x numbers_after → Taken Q start on more before x numbers_after
          taken x h b t =
              let l = K.0 (own_at Q x) t.lives in
              record {
                lives = l;
                support = t.support;
                completes = wider x t.support t.completes;
                lowest = λ us C. t.lowest us (completes-kept x us h l b C);
                held = t.held;
              }
