-- Laws of the index while it is filled: one bit set, and the rows, columns, tuples and relations passed and one more of each.
-- From the laws of a word stored, of the rows of a value, and of where a relation's values stand.
use mathlib.Core.Path.{◌≡◌, refl, sym, ◌∙◌, ap, ap₂, subst}
use mathlib.Core.Bool.{Bool, true, false, ◌||◌, or-false}
use mathlib.Core.List.{List, Memᴰ}
use Prim.Native.Nat.{ℕ, suc, ◌+◌, ◌-◌, ◌*◌, ◌/◌, ◌%◌, ◌^◌, ◌≤◌, ◌<◌}
use native.Mathlib.Nat.{mul_comm, mul-suc}
use native.Mathlib.Omega.{arith}
use native.Mathlib.Decide.{ℕ_discrete, dec_lt}
use borrow.Author.Count.{below_more}
use borrow.Author.Tests.{eqb-true, eqb-false, eq-eqb, ne_eqb}
use lib.Bits.{bit_or}
use lib.Dec.{eqb}
use lib.ListN.{length, get_or, set}
use Rattle.model.specs.Lists.{from}
use Rattle.model.specs.Network.{Network, width, size, total, first_id, values_at}
use Rattle.model.specs.LiveWords.{is_set, is_live}
use Rattle.model.proofs.Bools.{or_left, or_right}
use Rattle.model.proofs.Lists.{all-at, all-intro, from-mem}
use Rattle.model.proofs.LiveWords.{is_live-at}
use Rattle.live.proofs.Bits.{is_set-or, is_set-pow, one_shl}
use Rattle.live.proofs.Stores.{is_live-set-same, is_live-set-other}
use Rattle.layout.specs.Starts.{value_start}
use Rattle.layout.specs.Setting.{Lists, network_in, SoundLists}
use Rattle.layout.proofs.Places.{exists, value-at, below-limit}
use Rattle.layout.proofs.SoundStarts.{columns-few}
use Rattle.value_index.specs.Plan.{index_words, column_start, digit_count, row_at, any_row, SamePlan}
use Rattle.value_index.specs.Index.{row_bit, is_indexed, IndexedBy, IndexedAt, Indexed, Raises, Grows, Laid, Entered, EnteredAt, EntersColumn, EntersColumns, IndexesTuples}
use Rattle.value_index.proofs.ValueRows.{columns-same, digits_same, row_same, any_same, sound-same}

-- ---- One word

-- a word is or-ed into word i
module _ (ws : List ℕ) (i w h : ℕ) (inside : i < length ws) where
  pub joined_same : h / 64 ≡ i → is_live (set ws i (bit_or (get_or ws i 0) w)) h ≡ (is_live ws h || is_set w (h % 64))
  joined_same e =
      let q : 64 * i + h % 64 ≡ h = omega arith in
      is_live-set-same ws i (bit_or (get_or ws i 0) w) h inside e
      ∙ is_set-or (get_or ws i 0) w (h % 64)
      ∙ ap (λ (x : Bool). x || is_set w (h % 64)) (sym (is_live-at ws i (h % 64) (omega arith)) ∙ ap (is_live ws) q)

  pub joined_keeps : is_live ws h ≡ true → is_live (set ws i (bit_or (get_or ws i 0) w)) h ≡ true
  joined_keeps e = go (ℕ_discrete (h / 64) i)
    where
      go : Dec (h / 64 ≡ i) → is_live (set ws i (bit_or (get_or ws i 0) w)) h ≡ true
      go (yes q) = joined_same q ∙ or_left (is_set w (h % 64)) e
      go (no d) = is_live-set-other ws i (bit_or (get_or ws i 0) w) h d ∙ e

-- ---- One bit

-- the bit of id g in the row that begins at word `row` is set, which is in word i, and no other changes
pub entered-one : (ws : List ℕ) (row g i h : ℕ) → i ≡ row + g / 64 → i < length ws → is_live (set ws i (bit_or (get_or ws i 0) (1 * 2 ^ (g % 64) % 2 ^ 64))) h ≡ (is_live ws h || eqb (64 * row + g) h)
entered-one ws row g i h at inside = rw (one_shl (g % 64) (omega arith)) (go (ℕ_discrete (h / 64) i))
  where
    same : (x : Bool) → eqb (64 * row + g) h ≡ x → h / 64 ≡ i → eqb (g % 64) (h % 64) ≡ x
    same true e q = let d = eqb-true (64 * row + g) h e in eq-eqb (g % 64) (h % 64) (omega arith)
    same false e q = let d = eqb-false (64 * row + g) h e in ne_eqb (g % 64) (h % 64) (λ f. d (omega arith))

    go : Dec (h / 64 ≡ i) → is_live (set ws i (bit_or (get_or ws i 0) (2 ^ (g % 64)))) h ≡ (is_live ws h || eqb (64 * row + g) h)
    go (yes e) =
        joined_same ws i (2 ^ (g % 64)) h inside e
        ∙ ap (λ (y : Bool). is_live ws h || y) (is_set-pow (g % 64) (h % 64) ∙ same (eqb (64 * row + g) h) refl e)
    go (no d) =
        is_live-set-other ws i (bit_or (get_or ws i 0) (2 ^ (g % 64))) h d
        ∙ sym (ap (λ (x : Bool). is_live ws h || x) (ne_eqb (64 * row + g) h (λ e. d (omega arith))) ∙ or-false (is_live ws h))

-- ---- No bit is lost

pub grows_one : (before after : List ℕ) (p : ℕ) → SamePlan before after → Raises before after p → Grows before after
grows_one before after p s f = record { keeps = λ h e. f h ∙ or_left (eqb p h) e; same = s }

pub grows-on : (a b c : List ℕ) → Grows a b → Grows b c → Grows a c
grows-on a b c f g = record { keeps = λ p e. g.keeps p (f.keeps p e); same = λ k h. g.same k h ∙ f.same k h }

-- the index stays laid out
pub laid_on : (a b : List ℕ) (n : ℕ) → Grows a b → length b ≡ index_words → Laid a n → Laid b n
laid_on a b n f l d =
    record { full = l; plan = sound-same a b f.same d.plan; bits = let e = f.same 512 (omega arith) in omega (arith, e, d.bits) }

pub laid-fewer : (index : List ℕ) (m n : ℕ) → m ≤ n → Laid index n → Laid index m
laid-fewer index m n h d = record { full = d.full; plan = d.plan; bits = omega (arith, h, d.bits) }

-- .. and so does what is indexed
module _ (a b : List ℕ) (f : Grows a b) where
  pub value_on : (start v g : ℕ) → is_indexed a start v g ≡ true → is_indexed b start v g ≡ true
  unfolding is_indexed
  value_on start v g e =
      all-intro (λ (i : ℕ). row_bit b (row_at b start v i) g) (from 0 (digit_count b))
      (λ i m.
      subst (λ (r : ℕ). row_bit b r g ≡ true) (sym (row_same a b f.same start v i))
      (f.keeps (64 * row_at a start v i + g)
      (all-at (λ (j : ℕ). row_bit a (row_at a start v j) g) (from 0 (digit_count a)) e (subst (λ (n : ℕ). Memᴰ i (from 0 n)) (digits_same a b f.same) m))))

  -- what holds of a column's rows in the one index, and is kept
  pub at_on : (P : List ℕ → ℕ → Type 0) → ((start : ℕ) → P a start → P b start) → (r c : ℕ) → r < 64 → c < 8 → ((column_start a r c ≡ 0 → ⊥) → P a (column_start a r c)) → (column_start b r c ≡ 0 → ⊥) → P b (column_start b r c)
  at_on P on r c h k e d = let s = columns-same a b f.same r c h k in subst (P b) (sym s) (on (column_start a r c) (e (λ z. d (s ∙ z))))

  pub entered_on : (v g start : ℕ) → Entered a start v g → Entered b start v g
  entered_on v g start e =
      (λ q. subst (λ (r : ℕ). row_bit b r g ≡ true) (sym (any_same a b f.same start)) (f.keeps (64 * any_row a start + g) (e.0 q)), λ q. value_on start v g (e.1 q))

  pub entered_at-on : (r c v g : ℕ) → r < 64 → c < 8 → EnteredAt a r c v g → EnteredAt b r c v g
  entered_at-on r c v g h k = at_on (λ index start. Entered index start v g) (entered_on v g) r c h k

  pub column-on : (r c v g : ℕ) → r < 64 → c < 8 → IndexedAt a r c v g → IndexedAt b r c v g
  column-on r c v g h k = at_on (λ index start. IndexedBy index start v g) (λ start m w d e. value_on start w g (m w d e)) r c h k

-- ---- One row more

-- tuple g is in the first n rows of the value
abbrev pub InRows : List ℕ → ℕ → ℕ → ℕ → ℕ → Type 0
InRows index start v n g = (i : ℕ) → i < n → row_bit index (row_at index start v i) g ≡ true

pub rows_more : (a b : List ℕ) (start v n g p : ℕ) → p ≡ 64 * row_at a start v n + g → SamePlan a b → Raises a b p → InRows a start v n g → InRows b start v (n + 1) g
rows_more a b start v n g p e s f m =
    below_more _ n
    (λ i l. subst (λ (r : ℕ). row_bit b r g ≡ true) (sym (row_same a b s start v i)) (f (64 * row_at a start v i + g) ∙ or_left (eqb p (64 * row_at a start v i + g)) (m i l)))
    (subst (λ (r : ℕ). row_bit b r g ≡ true) (sym (row_same a b s start v n)) (f (64 * row_at a start v n + g) ∙ or_right (is_live a (64 * row_at a start v n + g)) (eq-eqb p (64 * row_at a start v n + g) e)))

pub rows_all : (index : List ℕ) (start v g : ℕ) → InRows index start v (digit_count index) g → is_indexed index start v g ≡ true
unfolding is_indexed
rows_all index start v g m =
    all-intro (λ (i : ℕ). row_bit index (row_at index start v i) g) (from 0 (digit_count index)) (λ i k. m i (omega (arith, from-mem 0 (digit_count index) i k)))

-- ---- One tuple more

-- tuples of w values each stand one after the other
pub row_next : (i w : ℕ) → suc i * w ≡ i * w + w
row_next i w = mul_comm (suc i) w ∙ mul-suc w i ∙ ap (λ (x : ℕ). x + w) (mul_comm w i)

pub column-more : (values : List ℕ) (at columns c start first n p : ℕ) (a b : List ℕ) → first ≤ n → p ≡ at + (n - first) * columns + c → Grows a b → Entered b start (get_or values p 0) n → EntersColumn values at columns c start first n a → EntersColumn values at columns c start first (n + 1) b
column-more values at columns c start first n p a b h e f one m g l k = go (dec_lt g n)
  where
    go : Dec (g < n) → Entered b start (get_or values (at + (g - first) * columns + c) 0) g
    go (yes t) = entered_on a b f (get_or values (at + (g - first) * columns + c) 0) g start (m g l t)
    go (no t) =
        let s : g ≡ n = omega arith in
        rw s (subst (λ (x : ℕ). Entered b start (get_or values x 0) n) e one)

-- ---- One column more

pub columns-entered : (values : List ℕ) (at r columns n first end : ℕ) (a b : List ℕ) → r < 64 → n < 8 → Grows a b → ((column_start a r n ≡ 0 → ⊥) → EntersColumn values at columns n (column_start a r n) first end b) → EntersColumns values at r columns n first end a → EntersColumns values at r columns (n + 1) first end b
columns-entered values at r columns n first end a b h k f one m =
    below_more _ n
    (λ c l g u v. entered_at-on a b f r c (get_or values (at + (g - first) * columns + c) 0) g h (omega arith) (m c l g u v))
    (λ g u v d.
    let s = columns-same a b f.same r n h k in
    subst (λ (t : ℕ). Entered b t (get_or values (at + (g - first) * columns + n) 0) g) (sym s) (one (λ z. d (s ∙ z)) g u v))

-- ---- One relation more

-- the relations below n are indexed
abbrev pub IndexesBelow : Network → ℕ → List ℕ → Type 0
IndexesBelow N n index =
    (r : ℕ) → r < n → (x c : ℕ) → x < size N r → c < width N r → IndexedAt index r c (get_or (values_at N r x) c 0) (first_id N r + x)

module _ {L : Lists} (laid : SoundLists L) where
  abbrev N : Network
  N = network_in L

  -- the tuples of relation r stand one after the other
  relation-indexed : (r at columns start end : ℕ) (index : List ℕ) → at ≡ value_start L.starts r → columns ≡ width N r → start ≡ first_id N r → end ≡ first_id N r + size N r → IndexesTuples L.values at r columns start end index → (x c : ℕ) → x < size N r → c < width N r → IndexedAt index r c (get_or (values_at N r x) c 0) (first_id N r + x)
  relation-indexed r at columns start end index ea ec es ee m x c hx hc =
      let i : first_id N r + x - start ≡ x = omega arith in
      let e : get_or L.values (at + (first_id N r + x - start) * columns + c) 0 ≡ get_or (values_at N r x) c 0 =
      ap₂ (λ (a w : ℕ). get_or L.values (a + (first_id N r + x - start) * w + c) 0) ea ec
      ∙ ap (λ (k : ℕ). get_or L.values (value_start L.starts r + k * width N r + c) 0) i
      ∙ sym (value-at laid r x hx c hc) in
      subst (λ (v : ℕ). IndexedAt index r c v (first_id N r + x)) e (m (first_id N r + x) (omega arith) (omega arith) c (omega arith))

  pub relations-more : (r at columns start end : ℕ) (a b : List ℕ) → at ≡ value_start L.starts r → columns ≡ width N r → start ≡ first_id N r → end ≡ first_id N r + size N r → Grows a b → IndexesTuples L.values at r columns start end b → IndexesBelow N r a → IndexesBelow N (r + 1) b
  relations-more r at columns start end a b ea ec es ee f m d =
      below_more _ r
      (λ q l x c hx hc.
      let k = below-limit laid q x hx in
      column-on a b f q c (get_or (values_at N q x) c 0) (first_id N q + x) k (omega (arith, columns-few laid.framed q k)) (d q l x c hx hc))
      (relation-indexed r at columns start end b ea ec es ee m)

  pub indexed-all : (n : ℕ) (index : List ℕ) → length N.relations ≤ n → Laid index (total N) → IndexesBelow N n index → Indexed N index
  indexed-all n index h l m =
      record { plan = l.plan; bits = l.bits; at = λ r x c hx hc. m r (omega (arith, exists laid r x hx)) x c hx hc }
