-- `meets` goes through the live tuples in the rows of tuple x. The loop's invariant: none before the id reached agrees with both tuples.
-- From what `tuples_agree` and `next_in_rows` ensure, and the law that whatever agrees is in all rows.
use mathlib.Core.Path.{◌≡◌, refl, sym, ◌∙◌, ap, subst}
use mathlib.Core.Bool.{true, false}
use mathlib.Core.List.{List}
use Prim.Native.Nat.{ℕ, ◌+◌, ◌-◌, ◌≤◌, ◌<◌}
use native.Mathlib.Omega.{arith}
use native.Mathlib.Decide.{dec_lt, ℕ_discrete}
use borrow.Author.Rules.{rules}
use Rattle.model.specs.Network.{Network, size, first_id}
use Rattle.model.specs.Agreement.{agree}
use Rattle.model.specs.LiveWords.{is_live}
use Rattle.model.proofs.Bools.{not-both}
use Rattle.layout.specs.Setting.{Lists, network_in}
use Rattle.narrowing.specs.Narrows.{Seeks}
use Rattle.narrowing.specs.TupleRows.{FirstRows, RowFor, Within, NextInRows}
use Rattle.narrowing.proofs.Narrowing.{IdsOf, ids-of}
use Rattle.narrowing.proofs.TupleRows.{rows-for-within, agreeing-rows}
use Rattle.refuting.proofs.meets.Statement.{statement}
use Rattle.refuting.proofs.meets.Tie as tie

-- ---- Tuples passed over

-- none below id g
abbrev UnmetBelow : Network → ℕ → ℕ → ℕ → ℕ → ℕ → List ℕ → ℕ → Type 0
UnmetBelow N r x s q y words g =
    (z : ℕ) → z < size N s → first_id N s + z < g → is_live words (first_id N s + z) ≡ true → agree N (first_id N r + x) (first_id N s + z) ≡ true → agree N (first_id N q + y) (first_id N s + z) ≡ true → ⊥

module _ {L : Lists} {index : List ℕ} {r x : ℕ} (P : Seeks L index r x) (s q y : ℕ) (rows words : List ℕ) (n : ℕ) (f : FirstRows (RowFor (network_in L) index r x s) n rows) (end : ℕ) where
  abbrev N : Network
  N = network_in L

  -- from id i on to the next in the rows
  passed_to : (i g : ℕ) → NextInRows index n rows words i end g → (z : ℕ) → z < size N s → i ≤ first_id N s + z → first_id N s + z < g → is_live words (first_id N s + z) ≡ true → agree N (first_id N r + x) (first_id N s + z) ≡ true → ⊥
  passed_to i g k z h l b live a = k.none_before (first_id N s + z) l b live (agreeing-rows P.laid P.indexed r x s z P.own h a f)

  unmet-first : (g : ℕ) → NextInRows index n rows words (first_id N s) end g → UnmetBelow N r x s q y words g
  unmet-first g k z h b live a o = passed_to (first_id N s) g k z h (omega arith) b live a

  unmet-next : (i g g' : ℕ) → first_id N s + i ≡ g → UnmetBelow N r x s q y words g → agree N (first_id N q + y) (first_id N s + i) ≡ false → NextInRows index n rows words (g + 1) end g' → UnmetBelow N r x s q y words g'
  unmet-next i g g' is U clash k z h b live a o = go (dec_lt (first_id N s + z) g) (ℕ_discrete z i)
    where
      go : Dec (first_id N s + z < g) → Dec (z ≡ i) → ⊥
      go (yes l) _ = U z h l live a o
      go (no l) (yes e) = not-both o (ap (λ (z : ℕ). agree N (first_id N q + y) (first_id N s + z)) e ∙ clash)
      go (no l) (no d) = passed_to (g + 1) g' k z h (omega (arith, l, d, is)) b live a

-- ---- The loop

abbrev invariant-loop : tie.invariant-loop-g
invariant-loop variables values starts index words r x s q y first end rows n g₀ g =
    ((first ≤ g) × (g ≤ end)) × UnmetBelow (network_in (record { variables = variables; values = values; starts = starts })) r x s q y words g

abbrev decreases-loop : tie.decreases-loop-g
decreases-loop variables values starts index words r x s q y first end rows n g₀ g = end - g

abbrev Entry : Type 0
Entry = tie.Start invariant-loop decreases-loop

abbrev given : Entry → Lists
given s = record { variables = s.args.variables.now; values = s.args.values.now; starts = s.args.starts.now }

abbrev asked : (s : Entry) → Seeks (given s) s.args.index.now s.args.r s.args.x
asked s = s.requires.0.1.0

module _ (l : tie.After-tuple_start-end invariant-loop decreases-loop) where
  abbrev begun : Entry
  begun = l.before.before.before.before

  abbrev net : Network
  net = network_in (given begun)

  own-ids : IdsOf net begun.args.index.now begun.args.s l.before.tuple_start-first.result l.tuple_start-end.result
  own-ids = ids-of (asked begun).laid (asked begun).indexed begun.args.s _ _ begun.requires.0.1.1 l.before.tuple_start-first.ensures l.tuple_start-end.ensures

module _ (c : tie.After-rows_for-n invariant-loop decreases-loop) where
  abbrev read : tie.After-tuple_start-end invariant-loop decreases-loop
  read = c.before.before

  abbrev rows : List ℕ
  rows = c.rows_for-n.new.rows

  abbrev found : FirstRows (RowFor (net read) (begun read).args.index.now (begun read).args.r (begun read).args.x (begun read).args.s) c.rows_for-n.result rows
  found = c.rows_for-n.ensures

  within : Within (begun read).args.index.now c.rows_for-n.result rows
  within = let s = begun read in rows-for-within (asked s).laid (asked s).indexed s.args.r s.args.x s.args.s s.requires.0.1.1 found

abbrev prepared : tie.At-loop-g invariant-loop decreases-loop → tie.After-rows_for-n invariant-loop decreases-loop
prepared l = l.before.before.before

rows-for-requires : tie.Need-rows_for-n-requires invariant-loop decreases-loop
rows-for-requires c κs = (refl, (begun c.before).requires.0.1)

next-in-rows-requires : tie.Need-next_in_rows-g-requires invariant-loop decreases-loop
next-in-rows-requires c κs =
    let w = c.before in
    let b = read w in
    (((begun b).requires.0.0, within w), ((own-ids b).bits, omega (arith, (own-ids b).begin, (own-ids b).stop)))

loop-holds : tie.Need-loop-g-init invariant-loop decreases-loop
loop-holds c =
    let w = c.before.before in
    let b = read w in
    let s = begun b in
    let k = c.next_in_rows-g.ensures in (
      (k.from_on, k.to_end),
      unmet-first (asked s) s.args.s s.args.q s.args.y (rows w) s.args.words.now w.rows_for-n.result (found w) b.tuple_start-end.result c.next_in_rows-g.result
          (subst (λ (i : ℕ). NextInRows s.args.index.now w.rows_for-n.result (rows w) s.args.words.now i b.tuple_start-end.result c.next_in_rows-g.result) (own-ids b).begin k),
    )

tuples-agree-requires : tie.Need-tuples_agree-requires invariant-loop decreases-loop
tuples-agree-requires c κs =
    let b = read (prepared c.before) in
    let s = begun b in
    record { laid = (asked s).laid; first = s.requires.1; second = omega (arith, c.loop-g-test.true, c.before.loop-g.invariant.0.0, (own-ids b).begin, (own-ids b).stop) }

next-in-rows-requires-2 : tie.Need-next_in_rows-g-requires-in-loop-g invariant-loop decreases-loop
next-in-rows-requires-2 c κs =
    let l = c.before.before.before in
    let w = prepared l.before in
    let b = read w in
    (((begun b).requires.0.0, within w), ((own-ids b).bits, omega (arith, l.loop-g-test.true)))

abbrev inner : tie.After-next_in_rows-g-in-loop-g invariant-loop decreases-loop → tie.In-loop-g invariant-loop decreases-loop
inner c = c.before.before.before.before

loop-less : tie.Need-loop-g-smaller invariant-loop decreases-loop
loop-less c = let f = c.next_in_rows-g-in-loop-g.ensures in omega (arith, f.from_on, f.to_end, (inner c).loop-g-test.true)

loop-again : tie.Need-loop-g-preserved invariant-loop decreases-loop
loop-again c =
    let l = (inner c).before in
    let w = prepared l in
    let b = read w in
    let s = begun b in
    let k = c.next_in_rows-g-in-loop-g.ensures in
    let i = l.loop-g.invariant in (
      (omega (arith, k.from_on, i.0.0), k.to_end),
      unmet-next (asked s) s.args.s s.args.q s.args.y (rows w) s.args.words.now w.rows_for-n.result (found w) b.tuple_start-end.result
          (l.loop-g.g - b.before.tuple_start-first.result) l.loop-g.g c.next_in_rows-g-in-loop-g.result
          (omega (arith, (own-ids b).begin, i.0.0)) i.1 (sym c.before.before.before.tuples_agree.ensures ∙ c.before.before.if-tuples_agree.false) k,
    )

returns-2 : tie.Need-returns invariant-loop decreases-loop
returns-2 c e z h =
    let l = c.before in
    l.loop-g.invariant.1 z h (omega (arith, h, c.loop-g-test.false, (own-ids (read (prepared l))).stop))

pub meets_spec : {M : Type 1} → statement M
meets_spec =
    tie.close
    (tie.spec
    invariant-loop
    decreases-loop
    (λ c κs. search rules)
    (λ c. search rules)
    (λ c κs. search rules)
    rows-for-requires
    next-in-rows-requires
    loop-holds
    (λ c. omega (arith, c.before.loop-g.invariant.0.0))
    tuples-agree-requires
    (λ c e. absurd (not-both refl e))
    (λ c. let l = c.before.before.before in omega (arith, l.loop-g-test.true, (own-ids (read (prepared l.before))).bits.1))
    next-in-rows-requires-2
    loop-less
    loop-again
    returns-2)
