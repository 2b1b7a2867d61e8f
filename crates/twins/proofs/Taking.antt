-- Laws of earlier tuples of a pair's member that are twins: if one lives its numbers are its first support, and x's once x is put in; if it
-- fell, x has no support; and of two that are twins by sides either gives its part. From what is done and noted, the model's laws of twins,
-- and the laws of pairs.
use mathlib.Core.Path.{◌≡◌, sym, ◌∙◌, ap, ap₂, subst}
use mathlib.Core.Bool.{Bool, true, false, cond}
use mathlib.Core.List.{List}
use Prim.Native.Nat.{ℕ, ◌+◌, ◌-◌, ◌*◌, ◌%◌, ◌≤◌, ◌<◌}
use native.Mathlib.Nat.{add-mul}
use native.Mathlib.Decide.{ℕ_discrete}
use native.Mathlib.Omega.{arith}
use lib.ListN.{length, get_or, take, drop, set, length-set}
use lib.Seq.{length-take-le, get_or-take, get_or-drop, get_or-set_same, get_or-set_other, ext_get_or}
use Rattle.model.specs.TupleSet.{TupleSet, has}
use Rattle.model.specs.Lists.{elem}
use Rattle.model.specs.Network.{Network, size, total, first_id, scope_of}
use Rattle.model.specs.Agreement.{agree, cells_of, under}
use Rattle.model.specs.Combination.{Combination, pair_member}
use Rattle.model.specs.Support.{first_support, Partners}
use Rattle.model.specs.LiveWords.{is_set, is_live}
use Rattle.model.proofs.LiveWords.{living-has}
use Rattle.live.proofs.Bits.{is_set-nought}
use Rattle.model.proofs.Support.{candidates-index, first_support-least, first_support-length}
use Rattle.model.proofs.Twins.{twin-first, twin-supported, twin-partners}
use Rattle.layout.specs.Starts.{tuple_start, SoundStarts}
use Rattle.layout.specs.Setting.{Setting, network, SoundPairs, live_in}
use Rattle.layout.specs.Pairs.{combination_of, size_of, tuple_id, place_of}
use Rattle.layout.proofs.SoundStarts.{tuple-start, tuples-few}
use Rattle.layout.proofs.Pairs.{combination-length, combination-rises, place-below, member-at, member_below, tuple-below, place-within}
use Rattle.worklist.specs.Supports.{replaced, Supported}
use Rattle.doubles.specs.Alike.{Alike, Common}
use Rattle.twins.specs.declared.sides.Sides.{Sides}
use Rattle.twins.specs.declared.Twin.TheVariants as twin
use Rattle.twins.specs.Sides.{Sided}
use Rattle.twins.specs.Twins.{WasSought, Noted, AgreesWith, TwinAt, Twins, LiveTwins, LoadsSides, Outcome}
use Rattle.twins.proofs.BySides.{sides_first}

-- the indices of tuple y's first support
abbrev pub FirstOf : Setting → List ℕ → ℕ → ℕ → List ℕ
FirstOf G words p y = first_support (network G) (live_in G words) (combination_of G p) (tuple_id G p y)

module _ {G : Setting} {words numbers : List ℕ} {p x place : ℕ} (A : TwinAt G words numbers p x place) where
  abbrev N : Network
  N = network G

  abbrev S : TupleSet
  S = live_in G words

  abbrev c : Combination
  c = combination_of G p

  abbrev own : ℕ
  own = p % G.m

  abbrev framed : SoundStarts G.lists.starts
  framed = A.at.sound.laid.framed

  abbrev paired : SoundPairs G.lists.starts G.m G.members
  paired = A.at.sound.paired

  many : length c ≡ G.m
  many = combination-length framed paired p A.at.pair

  own_below : own < length c
  own_below = omega (arith, place-below framed paired p A.at.pair, many)

  member_is : get_or c own 0 ≡ pair_member G.members p
  member_is = member-at framed paired p A.at.pair

  -- where no member is far, all variables of the others are near
  pub common-near : (sides : Sides) → Sided G p sides → sides.places ≡ 0 → Common G p sides.near
  common-near sides sided q i h d v e = sided.nearby i h d (ap (λ (w : ℕ). is_set w i) q ∙ is_set-nought i) v e

  -- the numbers of its tuples lie within the list
  pub numbers-within : (y : ℕ) → y < size_of G p → place_of G p y + G.m ≤ length numbers
  numbers-within y h = omega (arith, place-within A.at.sound p y A.at.pair h, A.room)

  module _ (y : ℕ) (before : y < x) where
    pub earlier-in : y < size_of G p
    earlier-in = omega (arith, before, A.index)

    -- where its numbers begin
    pub place-back : place - (x - y) * G.m ≡ place_of G p y
    place-back =
        let e : y + (x - y) ≡ x = omega (arith, before) in
        omega (arith, A.begins, add-mul y (x - y) G.m, ap (λ (n : ℕ). n * G.m) e)

    -- its id, and whether that lives
    id-is : tuple_start G.lists.starts (pair_member G.members p) + y ≡ tuple_id G p y
    id-is =
        let b = member_below framed paired p A.at.pair in
        ap (λ (g : ℕ). g + y) (tuple-start framed (pair_member G.members p) (omega (arith, b)))

    pub lives-is : has S (tuple_id G p y) ≡ is_live words (tuple_start G.lists.starts (pair_member G.members p) + y)
    lives-is = living-has (total N) words (tuple_id G p y) (tuple-below A.at.sound p y A.at.pair earlier-in) ∙ ap (is_live words) (sym id-is)

    -- the numbers of one that lives are its first support
    module _ (alive : has S (tuple_id G p y) ≡ true) where
      pub has_first : Supported G S c (tuple_id G p y)
      has_first = (A.done y before alive).0

      pub number_is : (j : ℕ) → j < G.m → get_or numbers (place_of G p y + j) 0 ≡ get_or (FirstOf G words p y) j 0
      number_is j l =
          sym (get_or-drop (place_of G p y) numbers j 0)
          ∙ sym (get_or-take G.m (drop (place_of G p y) numbers) j 0 l)
          ∙ ap (λ (is : List ℕ). get_or is j 0) (A.done y before alive).1

    -- the indices of its first support are of the members' tuples
    pub first-within : Supported G S c (tuple_id G p y) → (j : ℕ) → j < G.m → get_or (FirstOf G words p y) j 0 < size N (get_or c j 0)
    first-within s j l =
        let f = first_support-least N S c (tuple_id G p y) s in
        omega (arith, ap (λ (is : List ℕ). get_or is j 0) f.3, candidates-index N c f.1 j (omega (arith, many)))

    -- an entry of the table was sought
    pub was-sought : {sought : List ℕ} → Noted G words p x sought → (i : ℕ) → i < length sought → get_or sought i 0 ≡ y → WasSought G words p x y
    was-sought noted i within entry =
        let f = tuple-below A.at.sound p x A.at.pair A.index in
        subst (WasSought G words p x) entry (noted.entries i (omega (arith, within, noted.long)) (λ e. omega (arith, e, entry, before, f, tuples-few framed)))

    -- x's twin that is dead has no partners, so x has no support
    pub fallen-twin : WasSought G words p x y → (common : ℕ) → Common G p common → has S (tuple_id G p y) ≡ false → Alike G.lists common (pair_member G.members p) x y → Supported G S c (tuple_id G p x) → ⊥
    fallen-twin sought common covers dead alike s =
        sought.fell dead
        (subst Twin member_is law A.index earlier-in alike s)
      where
        -- the model's law, of a member r
        Twin : ℕ → Type 0
        Twin r =
            x < size N r
            → y < size N r
            → under (is_set common) (cells_of N (first_id N r + x)) ≡ under (is_set common) (cells_of N (first_id N r + y))
            → Supported G S c (first_id N r + x)
            → Partners N S c own (first_id N r + y)

        law : Twin (get_or c own 0)
        law x-in y-in same sup =
            twin-partners N S c (combination-rises framed paired p A.at.pair) own own_below (is_set common) covers x y x-in y-in same sup

  -- ---- Tuples with x put in

  module _ (tuples : List ℕ) (long : G.m ≤ length tuples) where
    put-own : get_or (set tuples own x) own 0 ≡ x
    put-own = get_or-set_same tuples own x 0 (omega (arith, own_below, many))

    -- they are x's first support, if they are so at every other place
    put_first : get_or (FirstOf G words p x) own 0 ≡ x → ((j : ℕ) → j < G.m → (j ≡ own → ⊥) → get_or (FirstOf G words p x) j 0 ≡ get_or tuples j 0) → take G.m (set tuples own x) ≡ FirstOf G words p x
    put_first at_own at = whole
      where
        first-long : length (FirstOf G words p x) ≡ G.m
        first-long = first_support-length N S c (tuple_id G p x) ∙ many

        take_long : length (take G.m (set tuples own x)) ≡ G.m
        take_long = length-take-le G.m (set tuples own x) (omega (arith, long, length-set tuples own x))

        go : (j : ℕ) → j < G.m → Dec (j ≡ own) → get_or (set tuples own x) j 0 ≡ get_or (FirstOf G words p x) j 0
        go j l (no d) = get_or-set_other tuples own j x 0 d ∙ sym (at j l d)
        go j l (yes q) = subst (λ (k : ℕ). get_or (set tuples own x) k 0 ≡ get_or (FirstOf G words p x) k 0) (sym q) (put-own ∙ sym at_own)

        whole : take G.m (set tuples own x) ≡ FirstOf G words p x
        whole =
            ext_get_or 0 (take G.m (set tuples own x)) (FirstOf G words p x) (take_long ∙ sym first-long)
            (λ j l. let m : j < G.m = omega (arith, l, take_long) in get_or-take G.m (set tuples own x) j 0 m ∙ go j m (ℕ_discrete j own))

    -- ---- One twin

    module _ (y : ℕ) (before : y < x) (common : ℕ) (covers : Common G p common) (alike : Alike G.lists common (pair_member G.members p) x y) (supported : Supported G S c (tuple_id G p y)) (first : (j : ℕ) → j < G.m → get_or tuples j 0 ≡ get_or (FirstOf G words p y) j 0) (agrees : AgreesWith G p x tuples) where
      -- the model's law, of a member r
      abbrev Twin : ℕ → Type 0
      Twin r =
          x < size N r
          → y < size N r
          → under (is_set common) (cells_of N (first_id N r + x)) ≡ under (is_set common) (cells_of N (first_id N r + y))
          → has S (first_id N r + x) ≡ true
          → Supported G S c (first_id N r + y)
          → ((i : ℕ) → i < length c → (i ≡ own → ⊥) → agree N (first_id N r + x) (first_id N (get_or c i 0) + get_or (first_support N S c (first_id N r + y)) i 0) ≡ true)
          → (first_support N S c (first_id N r + x) ≡ set (first_support N S c (first_id N r + y)) own x) × Supported G S c (first_id N r + x)

      law : Twin (get_or c own 0)
      law x-in y-in same living sup agree-too =
          let rises = combination-rises framed paired p A.at.pair in (
            twin-first N S c rises own own_below (is_set common) covers x y x-in y-in same living sup agree-too,
            twin-supported N S c rises own own_below (is_set common) covers x y x-in y-in same living sup agree-too,
          )

      result : (FirstOf G words p x ≡ set (FirstOf G words p y) own x) × Supported G S c (tuple_id G p x)
      result =
          subst Twin member_is law A.index (earlier-in y before) alike A.lives supported
          (λ i h d. ap (λ (k : ℕ). agree N (tuple_id G p x) (first_id N (get_or c i 0) + k)) (sym (first i (omega (arith, h, many)))) ∙ agrees i (omega (arith, h, many)) d)

      pub whole-first : Supported G S c (tuple_id G p x) × (take G.m (set tuples own x) ≡ FirstOf G words p x)
      whole-first = (
        result.1,
        put_first
            (ap (λ (is : List ℕ). get_or is own 0) result.0 ∙ get_or-set_same (FirstOf G words p y) own x 0 (omega (arith, own_below, first_support-length N S c (tuple_id G p y))))
            (λ j l d. ap (λ (is : List ℕ). get_or is j 0) result.0 ∙ get_or-set_other (FirstOf G words p y) own j x 0 d ∙ sym (first j l)),
      )

    -- ---- Twins by sides

    module _ (y z : ℕ) (y-before : y < x) (z-before : z < x) (sides : Sides) (sided : Sided G p sides) (alike-near : Alike G.lists sides.near (pair_member G.members p) x y) (alike-far : Alike G.lists sides.far (pair_member G.members p) x z) (of-y : Supported G S c (tuple_id G p y)) (of-z : Supported G S c (tuple_id G p z)) (firsts : (j : ℕ) → j < G.m → get_or tuples j 0 ≡ cond (is_set sides.places j) (get_or (FirstOf G words p z) j 0) (get_or (FirstOf G words p y) j 0)) (agrees : AgreesWith G p x tuples) where
      -- the model's law, of a member r
      abbrev Sides-law : ℕ → Type 0
      Sides-law r =
          x < size N r
          → y < size N r
          → z < size N r
          → under (is_set sides.near) (cells_of N (first_id N r + x)) ≡ under (is_set sides.near) (cells_of N (first_id N r + y))
          → under (is_set sides.far) (cells_of N (first_id N r + x)) ≡ under (is_set sides.far) (cells_of N (first_id N r + z))
          → has S (first_id N r + x) ≡ true
          → Supported G S c (first_id N r + y)
          → Supported G S c (first_id N r + z)
          → ((i : ℕ) → i < length c → (i ≡ own → ⊥) → agree N (first_id N r + x) (first_id N (get_or c i 0) + cond (is_set sides.places i) (get_or (first_support N S c (first_id N r + z)) i 0) (get_or (first_support N S c (first_id N r + y)) i 0)) ≡ true)
          → Supported G S c (first_id N r + x)
          × (get_or (first_support N S c (first_id N r + x)) own 0 ≡ x)
          × ((i : ℕ) → i < length c → (i ≡ own → ⊥) → get_or (first_support N S c (first_id N r + x)) i 0 ≡ cond (is_set sides.places i) (get_or (first_support N S c (first_id N r + z)) i 0) (get_or (first_support N S c (first_id N r + y)) i 0))

      -- the sides share no variable
      shares-none : (i k : ℕ) → i < length c → k < length c → (i ≡ own → ⊥) → (k ≡ own → ⊥) → is_set sides.places i ≡ true → is_set sides.places k ≡ false → (v : ℕ) → elem v (scope_of N (get_or c i 0)) ≡ true → elem v (scope_of N (get_or c k 0)) ≡ true → ⊥
      shares-none i k h l di dk ei ek v ev fv = sided.apart v (sided.nearby k l dk ek v fv) (sided.beyond i h di ei v ev)

      by-sides : Sides-law (get_or c own 0)
      by-sides x-in y-in z-in near far living sy sz agree-too =
          sides_first N S c (combination-rises framed paired p A.at.pair) own own_below (is_set sides.places) shares-none (is_set sides.near) (is_set sides.far) sided.nearby sided.beyond x y z x-in y-in z-in near far living sy sz agree-too

      pub both_first : Supported G S c (tuple_id G p x) × (take G.m (set tuples own x) ≡ FirstOf G words p x)
      both_first =
          let r =
          subst Sides-law member_is by-sides A.index (earlier-in y y-before) (earlier-in z z-before) alike-near alike-far A.lives of-y of-z
          (λ i h d. ap (λ (k : ℕ). agree N (tuple_id G p x) (first_id N (get_or c i 0) + k)) (sym (firsts i (omega (arith, h, many)))) ∙ agrees i (omega (arith, h, many)) d)
          in
          (r.0, put_first r.1 (λ j l d. r.2 j (omega (arith, l, many)) d ∙ sym (firsts j l)))

  -- ---- Taken

  module _ (sides : Sides) (sided : Sided G p sides) (y z : ℕ) (twins : Twins G words p x sides y z) (live : LiveTwins G words p x y z) where
    -- the tuples loaded for them
    module _ (tuples : List ℕ) (loads : LoadsSides numbers (place_of G p y) (place_of G p z) G.m sides.places tuples) where
      firsts : (j : ℕ) → j < G.m → get_or tuples j 0 ≡ cond (is_set sides.places j) (get_or (FirstOf G words p z) j 0) (get_or (FirstOf G words p y) j 0)
      firsts j l = loads j l ∙ go (is_set sides.places j)
        where
          go : (b : Bool) → get_or numbers (cond b (place_of G p z) (place_of G p y) + j) 0 ≡ cond b (get_or (FirstOf G words p z) j 0) (get_or (FirstOf G words p y) j 0)
          go true = number_is z live.z-before live.z-lives j l
          go false = number_is y live.y-before live.y-lives j l

      -- they are of the members
      pub loaded-within : (j : ℕ) → j < G.m → get_or tuples j 0 < size N (get_or c j 0)
      loaded-within j l = subst (λ (k : ℕ). k < size N (get_or c j 0)) (sym (firsts j l)) (go (is_set sides.places j))
        where
          go : (b : Bool) → cond b (get_or (FirstOf G words p z) j 0) (get_or (FirstOf G words p y) j 0) < size N (get_or c j 0)
          go true = first-within z live.z-before (has_first z live.z-before live.z-lives) j l
          go false = first-within y live.y-before (has_first y live.y-before live.y-lives) j l

      module _ (long : G.m ≤ length tuples) (agrees : AgreesWith G p x tuples) where
        comes : Supported G S c (tuple_id G p x) × (take G.m (set tuples own x) ≡ FirstOf G words p x)
        comes = go (ℕ_discrete sides.places 0)
          where
            go : Dec (sides.places ≡ 0) → Supported G S c (tuple_id G p x) × (take G.m (set tuples own x) ≡ FirstOf G words p x)
            go (yes q) =
                whole-first tuples long y live.y-before sides.near (common-near sides sided q) (twins.near.alike live.y-before) (has_first y live.y-before live.y-lives)
                (λ j l. firsts j l ∙ ap (λ (b : Bool). cond b (get_or (FirstOf G words p z) j 0) (get_or (FirstOf G words p y) j 0)) (ap (λ (w : ℕ). is_set w j) q ∙ is_set-nought j))
                agrees
            go (no d) =
                both_first tuples long y z live.y-before live.z-before sides sided (twins.near.alike live.y-before) ((twins.far d).alike live.z-before) (has_first y live.y-before live.y-lives) (has_first z live.z-before live.z-lives) firsts agrees

        pub taken : Outcome G p x words numbers twin.Taken (replaced numbers (take G.m (set tuples own x)) place G.m)
        taken = (ap₂ (λ (is : List ℕ) (k : ℕ). replaced numbers is k G.m) comes.1 A.begins, comes.0)
