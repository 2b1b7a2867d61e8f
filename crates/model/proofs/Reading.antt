-- Reading is sound and complete: a text is read exactly if it is the text of an instance in range, and as that instance.
-- From the reading of lines, and the lines of a network with a relation before others.
use mathlib.Core.Path.{◌≡◌, refl, sym, ◌∙◌, ap, ap₂, subst}
use mathlib.Core.Bool.{Bool, true, ◌&&◌}
use mathlib.Core.Option.{none, some, some-injective, none-ne-some}
use mathlib.Core.List.{List, [], ◌∷◌, ◌++◌, map, map-id, append-nil}
use Prim.Native.Nat.{ℕ, zero, suc, ◌+◌, ◌*◌, ◌-◌, ◌/◌, ◌%◌, ◌≤◌, ◌<◌}
use native.Mathlib.Nat.{mul_comm, mul-mod_left, div-add-mod'}
use native.Mathlib.Omega.{arith}
use lib.Dec.{leb, eqb}
use lib.ListN.{length, get_or, take, drop, length-append, take-append-drop}
use lib.Seq.{take_all, length-take-le}
use borrow.Author.Tests.{le-leb, leb-true, eqb-true, eq-eqb}
use Rattle.model.specs.declared.Relation.{Relation}
use Rattle.model.specs.Limits.{max_relations, max_width, max_tuples, min_members, max_members, max_combinations}
use Rattle.model.specs.Lists.{from, sum, all}
use Rattle.model.specs.Network.{Network, variables_in, values_in, total}
use Rattle.model.specs.Request.{Instance, combinations_of}
use Rattle.model.specs.Fault.{within, proper_width, proper_lengths, proper_list}
use Rattle.model.specs.Text.{max_field, max_code, max_text, line_text, text_of, network_lines, instance_lines, instance_text, small, small_fields, proper_sizes, writable}
use Rattle.model.specs.Reading.{Read, read_line, read_lines, joined, read_relations, read_instance, whole, read}
use Rattle.model.proofs.Bools.{and_left, and_right, and_intro}
use Rattle.model.proofs.Lists.{all-of-append, map-places, pieces, pieces-length}
use Rattle.model.proofs.Combination.{combination-count, combinations-pieces}
use Rattle.model.proofs.Text.{text_of-cons-rest, text_of-append-rest, joined-text}
use Rattle.model.proofs.ReadLines.{and_then-some, cond-some, of_some, field_bound, code-bound, LineRead, read_line-sound, read_line-complete, LinesRead, read_lines-sound, read_lines-complete}

-- ---- Relations

abbrev proper_widths : List Relation → Bool
proper_widths = all proper_width

small-append : (top : ℕ) (xs ys : List ℕ) → small top (xs ++ ys) ≡ (small top xs && small top ys)
small-append top xs ys = all-of-append (λ (n : ℕ). leb n top) xs ys

-- A network in range, with room for so many tuples.
pub record Fits (room : ℕ) (N : Network) : Type 0 where
  pub widths : proper_widths N.relations ≡ true
  pub tuples : total N ≤ room
  pub variables : length N.variables ≡ sum (map variables_in N.relations)
  pub values : length N.values ≡ sum (map values_in N.relations)
  pub few : room ≤ max_tuples
  pub scopes : small max_field N.variables ≡ true
  pub codes : small max_code N.values ≡ true

-- What is read as k relations: a network in range of that many, whose lines stand before the rest.
pub record RelationsRead (k room : ℕ) (t : List ℕ) (r : Network × List ℕ) : Type 0 where
  pub count : length r.0.relations ≡ k
  pub fits : Fits room r.0
  pub text : t ≡ text_of (network_lines r.0) ++ r.1

module _ (R : Relation) (scope values : List ℕ) (N : Network) (scoped : length scope ≡ R.width) (valued : length values ≡ R.tuples * R.width) (room : ℕ) where
  abbrev J : Network
  J = joined R scope values N

  -- the first relation is in range
  record First : Type 0 where
    pub width-in : within 1 max_width R.width ≡ true
    pub room-left : R.tuples ≤ room
    pub room-few : room ≤ max_tuples
    pub scope-in : small max_field scope ≡ true
    pub values-in : small max_code values ≡ true

  -- so that its record is a line
  first_head : First → small max_field (R.width ∷ R.tuples ∷ []) ≡ true
  first_head f =
      let w = leb-true R.width max_width (and_right (leb 1 R.width) (leb R.width max_width) f.width-in) in
      and_intro (le-leb R.width max_field (omega arith)) (and_intro (le-leb R.tuples max_field (omega (arith, f.room-left, f.room-few))) refl)

  joined-fits : First → Fits (room - R.tuples) N → Fits room J
  joined-fits f n =
      record {
        widths = and_intro f.width-in n.widths;
        tuples = omega (arith, f.room-left, n.tuples);
        variables = length-append scope N.variables ∙ ap₂ (λ (a b : ℕ). a + b) scoped n.variables;
        values = length-append values N.values ∙ ap₂ (λ (a b : ℕ). a + b) (valued ∙ mul_comm R.tuples R.width) n.values;
        few = f.room-few;
        scopes = small-append max_field scope N.variables ∙ and_intro f.scope-in n.scopes;
        codes = small-append max_code values N.values ∙ and_intro f.values-in n.codes;
      }

  fits-first : Fits room J → First
  fits-first j =
      record {
        width-in = and_left (within 1 max_width R.width) (proper_widths N.relations) j.widths;
        room-left = omega (arith, j.tuples);
        room-few = j.few;
        scope-in = and_left (small max_field scope) (small max_field N.variables) (sym (small-append max_field scope N.variables) ∙ j.scopes);
        values-in = and_left (small max_code values) (small max_code N.values) (sym (small-append max_code values N.values) ∙ j.codes);
      }

  fits-others : Fits room J → Fits (room - R.tuples) N
  fits-others j =
      record {
        widths = and_right (within 1 max_width R.width) (proper_widths N.relations) j.widths;
        tuples = omega (arith, j.tuples);
        variables = omega (arith, length-append scope N.variables, j.variables);
        values = omega (arith, length-append values N.values, j.values, mul_comm R.tuples R.width);
        few = omega (arith, j.few);
        scopes = and_right (small max_field scope) (small max_field N.variables) (sym (small-append max_field scope N.variables) ∙ j.scopes);
        codes = and_right (small max_code values) (small max_code N.values) (sym (small-append max_code values N.values) ∙ j.codes);
      }

  -- sound, for a relation before others
  joined-sound : (k : ℕ) (t t₁ t₂ t₃ rest : List ℕ) → room ≤ max_tuples → LineRead max_field 2 t (R.width ∷ R.tuples ∷ [], t₁) → (within 1 max_width R.width && leb R.tuples room) ≡ true → LineRead max_field R.width t₁ (scope, t₂) → LinesRead max_code R.tuples R.width t₂ (values, t₃) → RelationsRead k (room - R.tuples) t₃ (N, rest) → RelationsRead (suc k) room t (J, rest)
  joined-sound k t t₁ t₂ t₃ rest few a test b c d =
      record {
        count = ap suc d.count;
        fits =
            joined-fits
            (record {
              width-in = and_left (within 1 max_width R.width) (leb R.tuples room) test;
              room-left = leb-true R.tuples room (and_right (within 1 max_width R.width) (leb R.tuples room) test);
              room-few = few;
              scope-in = b.fields;
              values-in = c.fields;
            })
            d.fits;
        text =
            a.text
            ∙ ap (λ (u : List ℕ). line_text (R.width ∷ R.tuples ∷ []) ++ u)
            (b.text ∙ ap (λ (u : List ℕ). line_text scope ++ u) (c.text ∙ ap (λ (u : List ℕ). text_of (pieces R.tuples R.width values) ++ u) d.text))
            ∙ sym (joined-text R scope values N scoped valued rest);
      }

  -- complete, for a relation before others
  joined-complete : (k : ℕ) (rest : List ℕ) → Fits room J → read_relations k (room - R.tuples) (text_of (network_lines N) ++ rest) ≡ some (N, rest) → read_relations (suc k) room (text_of (network_lines J) ++ rest) ≡ some (J, rest)
  joined-complete k rest j others =
      let f = fits-first j in
      let w = R.width in
      let some-field = leb-true 1 w (and_left (leb 1 w) (leb w max_width) f.width-in) in
      let behind = text_of (network_lines N) ++ rest in
      let tuples = text_of (pieces R.tuples w values) ++ behind in
      let test : (within 1 max_width w && leb R.tuples room) ≡ true = and_intro f.width-in (le-leb R.tuples room f.room-left) in
      rw (
        joined-text R scope values N scoped valued rest,
        read_line-complete max_field field_bound 2 (w ∷ R.tuples ∷ []) (line_text scope ++ tuples) (omega arith) refl (first_head f),
        test,
        read_line-complete max_field field_bound w scope tuples some-field scoped f.scope-in,
        read_lines-complete max_code code-bound w some-field R.tuples values behind valued f.values-in,
        others,
      )

-- the fields of a line, each by its place
fields-places : (n : ℕ) (ns : List ℕ) → length ns ≡ n → ns ≡ map (λ (k : ℕ). get_or ns k 0) (from 0 n)
fields-places n ns e = sym (map-places (λ (x : ℕ). x) ns n 0 (omega arith) ∙ map-id (take n ns) ∙ take_all n ns (omega arith))

pub read_relations-sound : (k room : ℕ) (t : List ℕ) {r : Network × List ℕ} → room ≤ max_tuples → read_relations k room t ≡ some r → RelationsRead k room t r
unfolding text_of
read_relations-sound zero room t few e =
    of_some (RelationsRead 0 room t) e
    (record { count = refl; fits = record { widths = refl; tuples = omega arith; variables = refl; values = refl; few = few; scopes = refl; codes = refl }; text = refl })
read_relations-sound (suc k) room t few e =
    and_then-some (read_line max_field 2 t) _ e (λ head t₁ a e₁.
    let R : Relation = record { width = get_or head 0 0; tuples = get_or head 1 0 } in
    let test = cond-some (within 1 max_width R.width && leb R.tuples room) _ e₁ in
    and_then-some (read_line max_field R.width t₁) _ test.1 (λ scope t₂ b e₂.
    and_then-some (read_lines max_code R.tuples R.width t₂) _ e₂ (λ values t₃ c e₃.
    and_then-some (read_relations k (room - R.tuples) t₃) _ e₃ (λ N rest d e₄.
    let line = read_line-sound max_field field_bound 2 t a in
    let scope-line = read_line-sound max_field field_bound R.width t₁ b in
    let tuple-lines = read_lines-sound max_code code-bound R.tuples R.width t₂ c in
    of_some (RelationsRead (suc k) room t) e₄
    (joined-sound R scope values N scope-line.count tuple-lines.count room k t t₁ t₂ t₃ rest few
    (subst (λ (ns : List ℕ). LineRead max_field 2 t (ns, t₁)) (fields-places 2 head line.count) line)
    test.0 scope-line tuple-lines (read_relations-sound k (room - R.tuples) t₃ (omega arith) d))))))

abbrev network_of : List Relation → List ℕ → List ℕ → Network
network_of Rs variables values = record { relations = Rs; variables = variables; values = values }

relations-complete : (Rs : List Relation) (vs us : List ℕ) (room : ℕ) (rest : List ℕ) → Fits room (network_of Rs vs us) → read_relations (length Rs) room (text_of (network_lines (network_of Rs vs us)) ++ rest) ≡ some (network_of Rs vs us, rest)
unfolding text_of
relations-complete [] [] [] room rest f = refl
relations-complete [] [] (u ∷ us) room rest f = absurd (omega (arith, f.values))
relations-complete [] (v ∷ vs) us room rest f = absurd (omega (arith, f.variables))
relations-complete (R ∷ Rs) vs us room rest f =
    let a = R.width in
    let b = R.tuples * R.width in
    let scope = take a vs in
    let values = take b us in
    let others = network_of Rs (drop a vs) (drop b us) in
    let scoped : length scope ≡ a = length-take-le a vs (omega (arith, f.variables)) in
    let valued : length values ≡ b = length-take-le b us (omega (arith, f.values, mul_comm R.tuples R.width)) in
    let e : joined R scope values others ≡ network_of (R ∷ Rs) vs us = ap₂ (network_of (R ∷ Rs)) (take-append-drop a vs) (take-append-drop b us) in
    let j : Fits room (joined R scope values others) = subst (Fits room) (sym e) f in
    subst (λ (N : Network). read_relations (suc (length Rs)) room (text_of (network_lines N) ++ rest) ≡ some (N, rest)) e
    (joined-complete R scope values others scoped valued room (length Rs) rest j
    (relations-complete Rs (drop a vs) (drop b us) (room - R.tuples) rest (fits-others R scope values others scoped valued room j)))

pub read_relations-complete : (N : Network) (room : ℕ) (rest : List ℕ) → Fits room N → read_relations (length N.relations) room (text_of (network_lines N) ++ rest) ≡ some (N, rest)
read_relations-complete N = relations-complete N.relations N.variables N.values

-- ---- Instances

-- the first line
abbrev head_line : Instance → List ℕ
head_line I = length I.network.relations ∷ I.m ∷ length (combinations_of I) ∷ []

-- An instance in range.
pub record InRange (I : Instance) : Type 0 where
  pub relations : within 1 max_relations (length I.network.relations) ≡ true
  pub members : within min_members max_members I.m ≡ true
  pub list : proper_list I.m I.members ≡ true
  pub fits : Fits max_tuples I.network
  pub listed : small max_field I.members ≡ true

pub instance-text : (I : Instance) (rest : List ℕ) → instance_text I ++ rest ≡ line_text (head_line I) ++ (text_of (network_lines I.network) ++ (text_of (combinations_of I) ++ rest))
unfolding instance_text instance_lines
instance-text I rest =
    text_of-cons-rest (head_line I) (network_lines I.network ++ combinations_of I) rest
    ∙ ap (λ (t : List ℕ). line_text (head_line I) ++ t) (text_of-append-rest (network_lines I.network) (combinations_of I) rest)

members-some : (m : ℕ) → within min_members max_members m ≡ true → 0 < m
members-some m e = let l = leb-true min_members m (and_left (leb min_members m) (leb m max_members) e) in omega arith

abbrev limits : ℕ → ℕ → ℕ → Bool
limits relations m combinations = within 1 max_relations relations && (within min_members max_members m && leb combinations max_combinations)

instance-sound : (n m k : ℕ) (N : Network) (members t t₁ t₂ rest : List ℕ) → LineRead max_field 3 t (n ∷ m ∷ k ∷ [], t₁) → limits n m k ≡ true → RelationsRead n max_tuples t₁ (N, t₂) → LinesRead max_field k m t₂ (members, rest) → InRange (record { network = N; m = m; members = members }) × (t ≡ instance_text (record { network = N; m = m; members = members }) ++ rest)
instance-sound n m k N members t t₁ t₂ rest a test b c =
    let I : Instance = record { network = N; m = m; members = members } in
    let behind = and_right (within 1 max_relations n) (within min_members max_members m && leb k max_combinations) test in
    let m-in = and_left (within min_members max_members m) (leb k max_combinations) behind in
    let cs : combinations_of I ≡ pieces k m members = combinations-pieces m members k (members-some m m-in) c.count in
    let count : length (combinations_of I) ≡ k = ap length cs ∙ pieces-length k m members in
    let line : head_line I ≡ n ∷ m ∷ k ∷ [] = ap₂ {C = List ℕ} (λ x y. x ∷ m ∷ y ∷ []) b.count count in (
      record {
        relations = ap (within 1 max_relations) b.count ∙ and_left (within 1 max_relations n) (within min_members max_members m && leb k max_combinations) test;
        members = m-in;
        list =
            and_intro
            (eq-eqb (length members % m) 0 (ap (λ (l : ℕ). l % m) c.count ∙ mul-mod_left k m))
            (ap (λ (x : ℕ). leb x max_combinations) (sym (combination-count m members) ∙ count) ∙ and_right (within min_members max_members m) (leb k max_combinations) behind);
        fits = b.fits;
        listed = c.fields;
      },
      a.text
          ∙ ap (λ (u : List ℕ). line_text (n ∷ m ∷ k ∷ []) ++ u) (b.text ∙ ap (λ (u : List ℕ). text_of (network_lines N) ++ u) c.text)
          ∙ sym (instance-text I rest ∙ ap₂ (λ (h : List ℕ) (ls : List (List ℕ)). line_text h ++ (text_of (network_lines N) ++ (text_of ls ++ rest))) line cs),
    )

pub read_instance-sound : (t : List ℕ) {r : Instance × List ℕ} → read_instance t ≡ some r → InRange r.0 × (t ≡ instance_text r.0 ++ r.1)
unfolding read_instance
read_instance-sound t e =
    and_then-some (read_line max_field 3 t) _ e (λ head t₁ a e₁.
    let n = get_or head 0 0 in
    let m = get_or head 1 0 in
    let k = get_or head 2 0 in
    let test = cond-some (limits n m k) _ e₁ in
    and_then-some (read_relations n max_tuples t₁) _ test.1 (λ N t₂ b e₂.
    and_then-some (read_lines max_field k m t₂) _ e₂ (λ members rest c e₃.
    let line = read_line-sound max_field field_bound 3 t a in
    of_some (λ (r : Instance × List ℕ). InRange r.0 × (t ≡ instance_text r.0 ++ r.1)) e₃
    (instance-sound n m k N members t t₁ t₂ rest
    (subst (λ (ns : List ℕ). LineRead max_field 3 t (ns, t₁)) (fields-places 3 head line.count) line)
    test.0 (read_relations-sound n max_tuples t₁ (omega arith) b) (read_lines-sound max_field field_bound k m t₂ c)))))

-- its first line is one
head_small : (I : Instance) → InRange I → leb (length (combinations_of I)) max_combinations ≡ true → small max_field (head_line I) ≡ true
head_small I r few =
    let n = length I.network.relations in
    let a = leb-true n max_relations (and_right (leb 1 n) (leb n max_relations) r.relations) in
    let b = leb-true I.m max_members (and_right (leb min_members I.m) (leb I.m max_members) r.members) in
    let c = leb-true (length (combinations_of I)) max_combinations few in
    and_intro (le-leb n max_field (omega arith)) (and_intro (le-leb I.m max_field (omega arith)) (and_intro (le-leb (length (combinations_of I)) max_field (omega arith)) refl))

pub read_instance-complete : (I : Instance) (rest : List ℕ) → InRange I → read_instance (instance_text I ++ rest) ≡ some (I, rest)
unfolding read_instance
read_instance-complete I rest r =
    let N = I.network in
    let m = I.m in
    let k = length I.members / m in
    let pos = members-some m r.members in
    let whole = eqb-true (length I.members % m) 0 (and_left (eqb (length I.members % m) 0) (leb k max_combinations) r.list) in
    let count : length I.members ≡ k * m = omega (arith, div-add-mod' (length I.members) m) in
    let cs = combinations-pieces m I.members k pos count in
    let combinations : read_lines max_field (length (combinations_of I)) m (text_of (combinations_of I) ++ rest) ≡ some (I.members, rest) =
    ap₂ (λ (x : ℕ) (ls : List (List ℕ)). read_lines max_field x m (text_of ls ++ rest)) (ap length cs ∙ pieces-length k m I.members) cs
    ∙ read_lines-complete max_field field_bound m pos k I.members rest count r.listed
    in
    let few : leb (length (combinations_of I)) max_combinations ≡ true =
    ap (λ (x : ℕ). leb x max_combinations) (combination-count m I.members) ∙ and_right (eqb (length I.members % m) 0) (leb k max_combinations) r.list
    in
    let test : limits (length N.relations) m (length (combinations_of I)) ≡ true = and_intro r.relations (and_intro r.members few) in
    rw (
      instance-text I rest,
      read_line-complete max_field field_bound 3 (head_line I) (text_of (network_lines N) ++ (text_of (combinations_of I) ++ rest)) (omega arith) refl (head_small I r few),
      test,
      read_relations-complete N max_tuples (text_of (combinations_of I) ++ rest) r.fits,
      combinations,
    )

-- ---- Texts

-- an instance can be written exactly if it is in range and its text is short
module _ (I : Instance) where
  abbrev N : Network
  N = I.network

  abbrev counted : Bool
  counted = within 1 max_relations (length N.relations)

  abbrev formed : Bool
  formed = proper_sizes N && within min_members max_members I.m && proper_list I.m I.members

  pub writable-in : writable I ≡ true → InRange I × (length (instance_text I) ≤ max_text)
  unfolding writable
  writable-in e =
      let scopes = small max_field N.variables in
      let codes = small max_code N.values in
      let listed = small max_field I.members in
      let fields = small_fields I in
      let short = leb (length (instance_text I)) max_text in
      let a = and_left (formed && fields) short e in
      let b = and_left formed fields a in
      let members = within min_members max_members I.m in
      let list = proper_list I.m I.members in
      let c = and_left (proper_sizes N && members) list b in
      let sizes = and_left (proper_sizes N) members c in
      let widths = proper_widths N.relations in
      let d = and_left (counted && widths && leb (total N) max_tuples) (proper_lengths N) sizes in
      let lengths = and_right (counted && widths && leb (total N) max_tuples) (proper_lengths N) sizes in
      let f = and_left (counted && widths) (leb (total N) max_tuples) d in
      let variables = eqb (length N.variables) (sum (map variables_in N.relations)) in
      let values = eqb (length N.values) (sum (map values_in N.relations)) in
      let g = and_right formed fields a in
      let front = and_left (scopes && codes) listed g in (
        record {
          relations = and_left counted widths f;
          members = and_right (proper_sizes N) members c;
          list = and_right (proper_sizes N && members) list b;
          fits =
              record {
                widths = and_right counted widths f;
                tuples = leb-true (total N) max_tuples (and_right (counted && widths) (leb (total N) max_tuples) d);
                variables = eqb-true _ _ (and_left variables values lengths);
                values = eqb-true _ _ (and_right variables values lengths);
                few = omega arith;
                scopes = and_left scopes codes front;
                codes = and_right scopes codes front;
              };
          listed = and_right (scopes && codes) listed g;
        },
        leb-true (length (instance_text I)) max_text (and_right (formed && fields) short e),
      )

  in-writable : InRange I → length (instance_text I) ≤ max_text → writable I ≡ true
  unfolding writable
  in-writable r l =
      let f = r.fits in
      let lengths : proper_lengths N ≡ true = and_intro (eq-eqb _ _ f.variables) (eq-eqb _ _ f.values) in
      let sizes : proper_sizes N ≡ true = and_intro (and_intro (and_intro r.relations f.widths) (le-leb (total N) max_tuples f.tuples)) lengths in
      let fields : small_fields I ≡ true = and_intro (and_intro f.scopes f.codes) r.listed in
      and_intro (and_intro (and_intro (and_intro sizes r.members) r.list) fields) (le-leb (length (instance_text I)) max_text l)

whole-some : {A : Type 0} (r : Read A) {x : A} → whole r ≡ some x → r ≡ some (x, [])
whole-some none {x} e = absurd (none-ne-some x e)
whole-some {A = A} (some (y, [])) e = of_some (λ (z : A). ◌≡◌ {A = Read A} (some (y, [])) (some (z, []))) e refl
whole-some (some (y, b ∷ bs)) {x} e = absurd (none-ne-some x e)

-- A text that is read is the text of the instance read, and that instance is in range.
pub read-sound : (t : List ℕ) (I : Instance) → read t ≡ some I → (writable I ≡ true) × (instance_text I ≡ t)
unfolding read
read-sound t I e =
    let h = cond-some (leb (length t) max_text) (whole (read_instance t)) e in
    let r = read_instance-sound t (whole-some (read_instance t) h.1) in
    let text : instance_text I ≡ t = sym (r.1 ∙ append-nil (instance_text I)) in
    (in-writable I r.0 (subst (λ (u : List ℕ). length u ≤ max_text) (sym text) (leb-true (length t) max_text h.0)), text)

-- an instance in range has at most 64 relations
pub writable-few : (I : Instance) → writable I ≡ true → length I.network.relations ≤ max_relations
writable-few I w =
    let n = length I.network.relations in
    leb-true n max_relations (and_right (leb 1 n) (leb n max_relations) (writable-in I w).0.relations)

-- .. and small fields
pub writable-fields : (I : Instance) → writable I ≡ true → (small max_field I.network.variables ≡ true) × (small max_field I.members ≡ true)
writable-fields I w = let r = (writable-in I w).0 in (r.fits.scopes, r.listed)

-- The text of every instance in range is read, as that instance.
pub read-complete : (I : Instance) → writable I ≡ true → read (instance_text I) ≡ some I
unfolding read
read-complete I e =
    let w = writable-in I e in
    let r : read_instance (instance_text I) ≡ some (I, []) = ap read_instance (sym (append-nil (instance_text I))) ∙ read_instance-complete I [] w.0 in
    rw (le-leb (length (instance_text I)) max_text w.1, r)

-- Two instances in range do not have one text.
pub instance_text-injective : (I J : Instance) → writable I ≡ true → writable J ≡ true → instance_text I ≡ instance_text J → I ≡ J
instance_text-injective I J p q e = some-injective I J (sym (read-complete I p) ∙ ap read e ∙ read-complete J q)
