-- Laws of what steps take: no step, one after the other, and that of one tuple.
-- From the laws of live words and of a list with a stretch replaced.
use mathlib.Core.Path.{◌≡◌, refl, sym, ◌∙◌, ap, subst}
use mathlib.Core.Bool.{Bool, true, false, not, ◌&&◌, and-true, and-false}
use mathlib.Core.List.{List}
use mathlib.Core.Logic.{◌⊎◌, inl, inr, ⊎_elim}
use Prim.Native.Nat.{ℕ, suc, ◌+◌, ◌*◌, ◌≤◌, ◌<◌}
use native.Mathlib.Nat.{suc-mul, mul-le-mul_right}
use native.Mathlib.Decide.{ℕ_discrete, dec_lt}
use native.Mathlib.Omega.{arith}
use borrow.Author.Tests.{eq-eqb, ne_eqb}
use lib.Dec.{eqb}
use lib.ListN.{length}
use Rattle.model.specs.Lists.{earlier}
use Rattle.model.specs.LiveWords.{is_live, cleared}
use Rattle.model.proofs.Bools.{and_left, iff-eq, not-both}
use Rattle.model.proofs.LiveWords.{cleared-length}
use Rattle.live.proofs.Stores.{cleared-live}
use Rattle.narrowing.specs.Narrows.{Long}
use Rattle.worklist.specs.Supports.{replaced}
use Rattle.worklist.proofs.Stretch.{replaced-length, replaced-here, replaced-elsewhere}
use Rattle.together.specs.Together.{Joint, own_size, own_at, numbers_at, Room, Completes, Taken, Frames, Takes}

module _ (Q : Joint) (start : ℕ) where
  pub frames-none : (pending numbers : List ℕ) → Long pending → Frames Q start pending pending numbers numbers
  frames-none pending numbers long =
      record { long = long; inside = λ g e. e; outside = λ g o. refl; room = refl; elsewhere = λ b n o. refl; same = λ x h e. refl }

  module _ {before mid after numbers numbers_mid numbers_after : List ℕ} (F : Frames Q start before mid numbers numbers_mid) (G : Frames Q start mid after numbers_mid numbers_after) where
    -- what is as it was has not changed on the way
    unchanged : (g : ℕ) → is_live after g ≡ is_live before g → is_live mid g ≡ is_live before g
    unchanged g e = iff-eq (is_live mid g) (is_live before g) (F.inside g) (λ b. G.inside g (e ∙ b))

    pub frames-on : Frames Q start before after numbers numbers_after
    frames-on =
        record {
          long = G.long;
          inside = λ g e. F.inside g (G.inside g e);
          outside = λ g o. G.outside g o ∙ F.outside g o;
          room = G.room ∙ F.room;
          elsewhere = λ b n o. G.elsewhere b n o ∙ F.elsewhere b n o;
          same = λ x h e. let u = unchanged (own_at Q x) e in G.same x h (e ∙ sym u) ∙ F.same x h u;
        }

  module _ (k : ℕ) (chosen words : List ℕ) where
    -- nothing is taken
    pub takes_none : (pending numbers : List ℕ) → Long pending → Takes Q start k chosen words pending pending numbers numbers
    takes_none pending numbers long = record { frames = frames-none pending numbers long; taken = λ x h b a. absurd (not-both b a) }

    -- one step after the other
    pub takes-on : {before mid after numbers numbers_mid numbers_after : List ℕ} → Takes Q start k chosen words before mid numbers numbers_mid → Takes Q start k chosen words mid after numbers_mid numbers_after → Takes Q start k chosen words before after numbers numbers_after
    takes-on {before} {mid} {after} {numbers} {numbers_mid} {numbers_after} T U =
        record { frames = frames-on T.frames U.frames; taken = λ x h b a. go x h b a (is_live mid (own_at Q x)) refl }
      where
        go : (x : ℕ) → x < own_size Q → is_live before (own_at Q x) ≡ true → is_live after (own_at Q x) ≡ false → (m : Bool) → is_live mid (own_at Q x) ≡ m → Taken Q start k chosen words x numbers_after
        go x h b a true e = U.taken x h e a
        go x h b a false e =
            let t = T.taken x h b e in
            record {
              lives = t.lives;
              support = t.support;
              completes = t.completes;
              lowest = t.lowest;
              held = U.frames.same x h (a ∙ sym e) ∙ t.held;
            }

  -- ---- One tuple takes its support

  -- the numbers of a later tuple begin behind those of an earlier one
  apart : (y z : ℕ) → y < z → y * length Q.members + length Q.members ≤ z * length Q.members
  apart y z l = omega (arith, suc-mul y (length Q.members), mul-le-mul_right {m = suc y} {n = z} (length Q.members) l)

  pub numbers-in : (x n : ℕ) → x < own_size Q → Room Q start n → numbers_at Q start x + length Q.members ≤ n
  numbers-in x n own room = omega (arith, room, apart x (own_size Q) own)

  module _ (k : ℕ) (chosen words : List ℕ) (x : ℕ) (own : x < own_size Q) (before numbers support : List ℕ) (long : Long before) (room : Room Q start (length numbers)) (few : own_at Q x < 4096) (seeks : is_live before (own_at Q x) ≡ true) (lives : is_live words (own_at Q x) ≡ true) (completes : Completes Q k chosen words x support) (lowest : (us : List ℕ) → Completes Q k chosen words x us → earlier us support ≡ false) where
    abbrev m : ℕ
    m = length Q.members

    abbrev at : ℕ
    at = numbers_at Q start x

    abbrev after : List ℕ
    after = cleared (own_at Q x) before

    abbrev stored : List ℕ
    stored = replaced numbers support at m

    inside : at + m ≤ length numbers
    inside = numbers-in x (length numbers) own room

    after-live : (g : ℕ) → is_live after g ≡ (is_live before g && not (eqb (own_at Q x) g))
    after-live g = cleared-live before (own_at Q x) g (omega (arith, long, few))

    after-other : (g : ℕ) → (own_at Q x ≡ g → ⊥) → is_live after g ≡ is_live before g
    after-other g d = after-live g ∙ ap (λ (b : Bool). is_live before g && not b) (ne_eqb (own_at Q x) g d) ∙ and-true (is_live before g)

    after-own : is_live after (own_at Q x) ≡ false
    after-own = after-live (own_at Q x) ∙ ap (λ (b : Bool). is_live before (own_at Q x) && not b) (eq-eqb (own_at Q x) (own_at Q x) refl) ∙ and-false (is_live before (own_at Q x))

    -- a tuple that is as it was is another
    other : (y : ℕ) → is_live after (own_at Q y) ≡ is_live before (own_at Q y) → y ≡ x → ⊥
    other y e q = not-both (e ∙ ap (λ (z : ℕ). is_live before (own_at Q z)) q ∙ seeks) (ap (λ (z : ℕ). is_live after (own_at Q z)) q ∙ after-own)

    beside : (y : ℕ) → (y ≡ x → ⊥) → (numbers_at Q start y + m ≤ at) ⊎ (at + m ≤ numbers_at Q start y)
    beside y d = go (dec_lt y x)
      where
        go : Dec (y < x) → (numbers_at Q start y + m ≤ at) ⊎ (at + m ≤ numbers_at Q start y)
        go (yes l) = inl (omega (arith, apart y x l))
        go (no l) = inr (omega (arith, apart x y (omega arith)))

    out : (b n : ℕ) → (b + n ≤ start) ⊎ (numbers_at Q start (own_size Q) ≤ b) → (b + n ≤ at) ⊎ (at + m ≤ b)
    out b n o = ⊎_elim (λ l. inl (omega arith)) (λ l. inr (omega (arith, apart x (own_size Q) own))) o

    frames-one : Frames Q start before after numbers stored
    frames-one =
        record {
          long = cleared-length (own_at Q x) before ∙ long;
          inside = λ g e. and_left (is_live before g) (not (eqb (own_at Q x) g)) (sym (after-live g) ∙ e);
          outside = λ g o. after-other g (λ q. ⊎_elim (λ l. omega arith) (λ l. omega arith) o);
          room = replaced-length numbers support at m completes.long inside;
          elsewhere = λ b n o. replaced-elsewhere numbers support at m completes.long inside b n (out b n o);
          same = λ y h e. replaced-elsewhere numbers support at m completes.long inside (numbers_at Q start y) m (beside y (other y e));
        }

    pub takes_one : Takes Q start k chosen words before after numbers stored
    takes_one = record { frames = frames-one; taken = λ y h b a. go y b a (ℕ_discrete y x) }
      where
        mine : Taken Q start k chosen words x stored
        mine =
            record {
              lives = lives;
              support = support;
              completes = completes;
              lowest = lowest;
              held = replaced-here numbers support at m completes.long inside;
            }

        go : (y : ℕ) → is_live before (own_at Q y) ≡ true → is_live after (own_at Q y) ≡ false → Dec (y ≡ x) → Taken Q start k chosen words y stored
        go y b a (yes q) = subst (λ (z : ℕ). Taken Q start k chosen words z stored) (sym q) mine
        go y b a (no d) = absurd (not-both b (sym (after-other (own_at Q y) (λ q. d (omega (arith, q)))) ∙ a))

    pub seeks-no-more : is_live after (own_at Q x) ≡ true → ⊥
    seeks-no-more e = not-both e after-own
