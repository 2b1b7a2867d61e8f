-- Laws of lean words: how they come about member by member, and that they stay so while tuples of the member at the place fall.
-- From the laws of ids, and what falls of one relation.
use mathlib.Core.Path.{◌≡◌, refl, sym, ◌∙◌, subst}
use mathlib.Core.Bool.{Bool, true, false}
use mathlib.Core.List.{List}
use mathlib.Core.Logic.{⊎_elim}
use Prim.Native.Nat.{ℕ, ◌+◌, ◌*◌, ◌%◌, ◌<◌}
use native.Mathlib.Decide.{ℕ_discrete}
use native.Mathlib.Omega.{arith}
use lib.Dec.{ltb}
use lib.ListN.{length, get_or}
use borrow.Author.Tests.{ltb-true}
use Rattle.model.specs.Lists.{all, pairwise}
use Rattle.model.specs.Network.{Network, size, first_id}
use Rattle.model.specs.Combination.{Combination, Covers}
use Rattle.model.specs.LiveWords.{is_set, is_live, cleared}
use Rattle.model.proofs.Bools.{and_left, not-both}
use Rattle.model.proofs.Lists.{all_get_d}
use Rattle.model.proofs.Network.{ids-apart}
use Rattle.layout.specs.Setting.{Lists, network_in, Setting, Sound}
use Rattle.layout.specs.Pairs.{combination_of}
use Rattle.layout.proofs.Pairs.{combination-length, combination-proper, place-below}
use Rattle.narrowing.specs.Narrows.{Long}
use Rattle.spreading.proofs.Kept.{differ}
use Rattle.lean.specs.Lean.{Thinned, LeanAt, Double, Lean, LeanFrom}
use Rattle.live.proofs.Stores.{cleared-fewer, cleared-other}

-- a pair's combination, and its member's place
pub pair-asks : {G : Setting} → Sound G → (p : ℕ) → p < length G.members → LeanAt G.lists (combination_of G p) (p % G.m)
pair-asks sound p h =
    let n = combination-length sound.laid.framed sound.paired p h in
    record {
      laid = sound.laid;
      members = record { proper = combination-proper sound.laid.framed sound.paired p h; few = omega (arith, n, sound.paired.list.few) };
      inside = omega (arith, n, place-below sound.laid.framed sound.paired p h);
    }

module _ (L : Lists) (c : Combination) (place : ℕ) where
  abbrev N : Network
  N = network_in L

  abbrev id : ℕ → ℕ → ℕ
  id j x = first_id N (get_or c j 0) + x

  -- the live words are lean
  pub lean-same : (words : List ℕ) → Long words → LeanFrom L c place words words
  lean-same words long =
      (record { long = long; own = λ x h e. e; others = λ j x h d l e. e; doubles = λ j x h d l e f. absurd (not-both e f) }, λ g e. e)

  -- lean words of lean words
  module _ {words lean less : List ℕ} (E : Lean L c place words lean) (F : Lean L c place lean less) where
    fell : (j x : ℕ) → j < length c → (j ≡ place → ⊥) → x < size N (get_or c j 0) → is_live words (id j x) ≡ true → is_live less (id j x) ≡ false → (b : Bool) → is_live lean (id j x) ≡ b → Double L c j words x
    fell j x h d l e f false q = E.doubles j x h d l e q
    fell j x h d l e f true q =
        let D = F.doubles j x h d l q f in
        let R = D.repeated in
        record {
          set = D.set;
          covers = D.covers;
          repeated = record { y = R.y; before = R.before; lives = E.others j R.y h d (omega (arith, R.before, l)) R.lives; alike = R.alike };
        }

    pub lean-both : Lean L c place words less
    lean-both =
        record {
          long = F.long;
          own = λ x l e. F.own x l (E.own x l e);
          others = λ j x h d l e. E.others j x h d l (F.others j x h d l e);
          doubles = λ j x h d l e f. fell j x h d l e f (is_live lean (id j x)) refl;
        }

  module _ (A : LeanAt L c place) where
    pub member-exists : (j : ℕ) → j < length c → get_or c j 0 < length N.relations
    member-exists j h =
        ltb-true (get_or c j 0) (length N.relations)
        (all_get_d (λ (r : ℕ). ltb r (length N.relations)) c j 0 (and_left (all (λ (r : ℕ). ltb r (length N.relations)) c) (pairwise ltb c) A.members.proper) h)

    -- one place to a relation
    members-differ : (i j : ℕ) → i < length c → j < length c → (i ≡ j → ⊥) → get_or c i 0 ≡ get_or c j 0 → ⊥
    members-differ i j h k d = differ N c A.members i j h k d

    -- ---- One member is thinned

    module _ {words less : List ℕ} (j set : ℕ) (hj : j < length c) (other : j ≡ place → ⊥) (covers : Covers N c j (is_set set)) (T : Thinned L set (get_or c j 0) words less) where
      -- the ids of another member stay
      stays : (i x : ℕ) → i < length c → (i ≡ j → ⊥) → x < size N (get_or c i 0) → is_live less (id i x) ≡ is_live words (id i x)
      stays i x h d l = T.outside (id i x) (ids-apart N (get_or c i 0) x (get_or c j 0) l (members-differ j i hj h (λ q. d (sym q))))

      gone : (i x : ℕ) → i < length c → x < size N (get_or c i 0) → is_live words (id i x) ≡ true → is_live less (id i x) ≡ false → Dec (j ≡ i) → Double L c i words x
      gone i x h l e f (no k) = absurd (not-both (stays i x h (λ q. k (sym q)) l ∙ e) f)
      gone i x h l e f (yes k) =
          subst (λ (i : ℕ). Double L c i words x) k
          (record {
            set = set;
            covers = covers;
            repeated = T.repeats x (subst (λ (i : ℕ). x < size N (get_or c i 0)) (sym k) l) (subst (λ (i : ℕ). is_live words (id i x) ≡ true) (sym k) e) (subst (λ (i : ℕ). is_live less (id i x) ≡ false) (sym k) f);
          })

      pub thinned-lean : LeanFrom L c place words less
      thinned-lean = (
        record {
          long = T.long;
          own = λ x l e. stays place x A.inside (λ q. other (sym q)) l ∙ e;
          others = λ i x h d l e. T.inside (id i x) e;
          doubles = λ i x h d l e f. gone i x h l e f (ℕ_discrete j i);
        },
        T.inside,
      )

    -- ---- A tuple of the member at the place falls

    module _ {words lean : List ℕ} (E : Lean L c place words lean) (x : ℕ) (x-in : x < size N (get_or c place 0)) (room : id place x < 64 * length words) where
      abbrev less : List ℕ
      less = cleared (id place x) words

      -- the others live as before
      beside : (j y : ℕ) → j < length c → (j ≡ place → ⊥) → y < size N (get_or c j 0) → is_live less (id j y) ≡ is_live words (id j y)
      beside j y h d l = cleared-other words (id place x) room (id j y) (λ q. absurd (apart q))
        where
          apart : id place x ≡ id j y → ⊥
          apart q = ⊎_elim (λ b. omega (arith, b, q, l)) (λ b. omega (arith, b, q, l)) (ids-apart N (get_or c place 0) x (get_or c j 0) x-in (members-differ j place h A.inside d))

      pub lean-cleared : Lean L c place less lean
      lean-cleared =
          record {
            long = E.long;
            own = λ y l e. E.own y l (cleared-fewer words (id place x) room (id place y) e);
            others = λ j y h d l e. beside j y h d l ∙ E.others j y h d l e;
            doubles = λ j y h d l e f.
                let D = E.doubles j y h d l (sym (beside j y h d l) ∙ e) f in
                let R = D.repeated in
                record {
                  set = D.set;
                  covers = D.covers;
                  repeated = record { y = R.y; before = R.before; lives = beside j R.y h d (omega (arith, R.before, l)) ∙ R.lives; alike = R.alike };
                };
          }
