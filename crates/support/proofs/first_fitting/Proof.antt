-- `first_fitting` goes from live tuple to live tuple until one fits, and passes over those that are not in the rows of a tuple fixed before. The
-- invariant: none before the id reached fits. From what `fits` and `next_in_rows` ensure, and the law that whatever agrees is in all rows.
use mathlib.Core.Path.{◌≡◌, refl, sym, ◌∙◌, ap, subst}
use mathlib.Core.Bool.{Bool, true, false}
use mathlib.Core.List.{List, ◌∷◌, Memᴰ}
use mathlib.Core.Logic.{⊎_elim}
use Prim.Native.Nat.{ℕ, ◌+◌, ◌-◌, ◌≤◌, ◌<◌}
use native.Mathlib.Omega.{arith}
use native.Mathlib.Decide.{dec_lt, ℕ_discrete}
use lib.ListN.{get_or}
use Rattle.model.specs.Network.{Network, size, first_id}
use Rattle.model.specs.Agreement.{agree}
use Rattle.model.specs.LiveWords.{is_live}
use Rattle.model.proofs.Bools.{not-both}
use Rattle.model.proofs.Lists.{here}
use Rattle.layout.specs.Setting.{Lists, network_in}
use Rattle.narrowing.specs.TupleRows.{FirstRows, RowFor, Within, in_rows, NextInRows}
use Rattle.narrowing.proofs.Narrowing.{IdsOf, ids-of}
use Rattle.narrowing.proofs.TupleRows.{rows-for-within, agreeing-rows}
use Rattle.support.specs.Search.{id_at, chosen_ids, fits, FittingAt, ComesFrom}
use Rattle.support.proofs.Chosen.{chosen-mem, fits-clash}
use Rattle.support.proofs.first_fitting.Statement.{statement}
use Rattle.support.proofs.first_fitting.Tie as tie

-- ---- Tuples passed over

module _ {L : Lists} {index : List ℕ} {c : List ℕ} {place own k : ℕ} {chosen : List ℕ} {from by x : ℕ} (P : FittingAt L index c place own k chosen from by x) where
  abbrev N : Network
  N = network_in L

  -- the member's relation
  abbrev rel : ℕ
  rel = get_or c k 0

  -- it is fixed before
  fixed-mem : Memᴰ (id_at N c by x) (id_at N c place own ∷ chosen_ids N c chosen k)
  fixed-mem =
      ⊎_elim
      (λ e. subst (λ (y : ℕ). Memᴰ y (id_at N c place own ∷ chosen_ids N c chosen k)) (ap (λ (j : ℕ). id_at N c j own) (sym e.0) ∙ ap (id_at N c by) (sym e.1)) here)
      (λ e. Memᴰ.tail (subst (λ (y : ℕ). Memᴰ (id_at N c by y) (chosen_ids N c chosen k)) (sym e.1) (chosen-mem N c chosen k by e.0)))
      P.fixed

  -- a tuple outside its rows does not fit
  outside : {rows : List ℕ} {n : ℕ} → FirstRows (RowFor N index (get_or c by 0) x rel) n rows → (h : ℕ) → first_id N rel ≤ h → h < first_id N rel + size N rel → in_rows index rows n h ≡ false → fits N c place own k chosen (h - first_id N rel) ≡ false
  outside {rows} {n} f h l b out = go (agree N (id_at N c by x) (id_at N c k (h - first_id N rel))) refl
    where
      is : first_id N rel + (h - first_id N rel) ≡ h
      is = omega arith

      go : (a : Bool) → agree N (id_at N c by x) (id_at N c k (h - first_id N rel)) ≡ a → fits N c place own k chosen (h - first_id N rel) ≡ false
      go true e =
          absurd (not-both (ap (in_rows index rows n) (sym is) ∙ agreeing-rows P.trials.laid P.indexed (get_or c by 0) x rel (h - first_id N rel) P.by-own (omega arith) e f) out)
      go false e = fits-clash N c place own k chosen (h - first_id N rel) (id_at N c by x) fixed-mem e

  -- none of the live tuples from `from` on and below id g fits
  record Passed (words : List ℕ) (g : ℕ) : Type 0 where
    pub comes : ComesFrom N c k words g
    pub from_on : from ≤ g
    pub none_before : (h : ℕ) → from ≤ h → h < g → is_live words h ≡ true → fits N c place own k chosen (h - first_id N rel) ≡ false

  module _ {rows words : List ℕ} {n : ℕ} (f : FirstRows (RowFor N index (get_or c by 0) x rel) n rows) (end : ℕ) (e : end ≡ first_id N rel + size N rel) where
    -- from id i on to the next in the rows
    passed_to : (i g : ℕ) → from ≤ i → NextInRows index n rows words i end g → (h : ℕ) → i ≤ h → h < g → is_live words h ≡ true → fits N c place own k chosen (h - first_id N rel) ≡ false
    passed_to i g l s h a b live = go (in_rows index rows n h) refl
      where
        go : (t : Bool) → in_rows index rows n h ≡ t → fits N c place own k chosen (h - first_id N rel) ≡ false
        go true q = absurd (s.none_before h a b live q)
        go false q = outside f h (omega (arith, P.from_first)) (omega (arith, s.to_end)) q

    comes-to : (i g : ℕ) → from ≤ i → NextInRows index n rows words i end g → ComesFrom N c k words g
    comes-to i g l s = record { from_first = omega (arith, P.from_first, s.from_on); to_end = omega (arith, s.to_end); lives = λ h. s.lives (omega arith) }

    passed_first : (g : ℕ) → NextInRows index n rows words from end g → Passed words g
    passed_first g s = record { comes = comes-to from g (omega arith) s; from_on = s.from_on; none_before = passed_to from g (omega arith) s }

    passed-next : (g g' : ℕ) → Passed words g → fits N c place own k chosen (g - first_id N rel) ≡ false → NextInRows index n rows words (g + 1) end g' → Passed words g'
    passed-next g g' p clash s =
        record {
          comes = comes-to (g + 1) g' (omega (arith, p.from_on)) s;
          from_on = omega (arith, p.from_on, s.from_on);
          none_before = λ h a b live. go h a b live (dec_lt h g) (ℕ_discrete h g);
        }
      where
        go : (h : ℕ) → from ≤ h → h < g' → is_live words h ≡ true → Dec (h < g) → Dec (h ≡ g) → fits N c place own k chosen (h - first_id N rel) ≡ false
        go h a b live (yes l) _ = p.none_before h a l live
        go h a b live (no l) (yes q) = subst (λ (h : ℕ). fits N c place own k chosen (h - first_id N rel) ≡ false) (sym q) clash
        go h a b live (no l) (no d) = passed_to (g + 1) g' (omega (arith, p.from_on)) s h (omega arith) b live

-- ---- The loop

abbrev invariant-loop : tie.invariant-loop-g
invariant-loop variables values starts index words members place own k chosen from by x r first end rows n g₀ g =
    let L : Lists = record { variables = variables; values = values; starts = starts } in
    (P : FittingAt L index members place own k chosen from by x) → Passed P words g

abbrev decreases-loop : tie.decreases-loop-g
decreases-loop variables values starts index words members place own k chosen from by x r first end rows n g₀ g = end - g

abbrev Entry : Type 0
Entry = tie.Start invariant-loop decreases-loop

abbrev given : Entry → Lists
given s = record { variables = s.args.variables.now; values = s.args.values.now; starts = s.args.starts.now }

abbrev asked : (s : Entry) → FittingAt (given s) s.args.index.now s.args.members.now s.args.place s.args.own s.args.k s.args.chosen s.args.from s.args.by s.args.x
asked s = s.requires.1

module _ (l : tie.After-tuple_start-end invariant-loop decreases-loop) where
  abbrev begun : Entry
  begun = l.before.before.before.before.before.before

  abbrev net : Network
  net = network_in (given begun)

  abbrev r : ℕ
  r = get_or begun.args.members.now begun.args.k 0

  own-ids : IdsOf net begun.args.index.now r l.before.tuple_start-first.result l.tuple_start-end.result
  own-ids = ids-of (asked begun).trials.laid (asked begun).indexed r _ _ (asked begun).trials.relation l.before.tuple_start-first.ensures l.tuple_start-end.ensures

module _ (c : tie.After-rows_for-n invariant-loop decreases-loop) where
  abbrev read : tie.After-tuple_start-end invariant-loop decreases-loop
  read = c.before.before.before

  abbrev rows : List ℕ
  rows = c.rows_for-n.new.rows

  abbrev found : FirstRows (RowFor (net read) (begun read).args.index.now (get_or (begun read).args.members.now (begun read).args.by 0) (begun read).args.x (r read)) c.rows_for-n.result rows
  found = c.rows_for-n.ensures

  within : Within (begun read).args.index.now c.rows_for-n.result rows
  within = let P = asked (begun read) in rows-for-within P.trials.laid P.indexed (get_or (begun read).args.members.now (begun read).args.by 0) (begun read).args.x (r read) P.trials.relation found

abbrev prepared : tie.At-loop-g invariant-loop decreases-loop → tie.After-rows_for-n invariant-loop decreases-loop
prepared l = l.before.before.before

-- the index of the tuple that is tried
tried : (l : tie.In-loop-g invariant-loop decreases-loop) → let b = read (prepared l.before) in l.before.loop-g.g - b.before.tuple_start-first.result ≡ l.before.loop-g.g - first_id (net b) (r b)
tried l = ap (λ (n : ℕ). l.before.loop-g.g - n) (own-ids (read (prepared l.before))).begin

passed : (l : tie.At-loop-g invariant-loop decreases-loop) → Passed (asked (begun (read (prepared l)))) (begun (read (prepared l))).args.words.now l.loop-g.g
passed l = l.loop-g.invariant (asked (begun (read (prepared l))))

fits-requires : tie.Need-fits-requires invariant-loop decreases-loop
fits-requires l κs =
    let b = read (prepared l.before) in
    (asked (begun b)).trials.each (l.before.loop-g.g - b.before.tuple_start-first.result)
    (omega (arith, l.loop-g-test.true, own-ids b, (passed l.before).comes.from_first))

returns : tie.Need-returns-then-fits invariant-loop decreases-loop
returns c =
    let l = c.before.before in
    let s = begun (read (prepared l.before)) in
    let p = passed l.before in
    record {
      comes = p.comes;
      from_on = p.from_on;
      fitting = λ h. ap (fits (network_in (given s)) s.args.members.now s.args.place s.args.own s.args.k s.args.chosen) (sym (tried l)) ∙ sym c.before.fits.ensures ∙ c.if-fits.true;
      none_before = p.none_before;
    }

rows-for-requires : tie.Need-rows_for-n-requires invariant-loop decreases-loop
rows-for-requires c κs =
    let b = c.before.before in
    let P = asked (begun b) in
    (refl, (record { laid = P.trials.laid; indexed = P.indexed; own = P.by-own }, P.trials.relation))

next-in-rows-requires : tie.Need-next_in_rows-g-requires invariant-loop decreases-loop
next-in-rows-requires c κs =
    let w = c.before in
    let b = read w in
    (((begun b).requires.0, within w), ((own-ids b).bits, omega (arith, (asked (begun b)).to_end, (own-ids b).stop)))

next-in-rows-requires-2 : tie.Need-next_in_rows-g-requires-in-loop-g invariant-loop decreases-loop
next-in-rows-requires-2 c κs =
    let l = c.before.before.before in
    let w = prepared l.before in
    let b = read w in
    (((begun b).requires.0, within w), ((own-ids b).bits, omega (arith, l.loop-g-test.true)))

loop-holds : tie.Need-loop-g-init invariant-loop decreases-loop
loop-holds c P =
    let w = c.before.before in
    let b = read w in
    passed_first P (found w) b.tuple_start-end.result (own-ids b).stop c.next_in_rows-g.result c.next_in_rows-g.ensures

module _ (c : tie.After-next_in_rows-g-in-loop-g invariant-loop decreases-loop) where
  abbrev inner : tie.In-loop-g invariant-loop decreases-loop
  inner = c.before.before.before.before

  clashes : let s = begun (read (prepared inner.before)) in fits (network_in (given s)) s.args.members.now s.args.place s.args.own s.args.k s.args.chosen (inner.before.loop-g.g - first_id (network_in (given s)) (get_or s.args.members.now s.args.k 0)) ≡ false
  clashes =
      let s = begun (read (prepared inner.before)) in
      ap (fits (network_in (given s)) s.args.members.now s.args.place s.args.own s.args.k s.args.chosen) (sym (tried inner)) ∙ sym c.before.before.before.fits.ensures ∙ c.before.before.if-fits.false

loop-again : tie.Need-loop-g-preserved invariant-loop decreases-loop
loop-again c P =
    let l = (inner c).before in
    let w = prepared l in
    let b = read w in
    passed-next P (found w) b.tuple_start-end.result (own-ids b).stop l.loop-g.g c.next_in_rows-g-in-loop-g.result (l.loop-g.invariant P) (clashes c) c.next_in_rows-g-in-loop-g.ensures

loop-less : tie.Need-loop-g-smaller invariant-loop decreases-loop
loop-less c = let f = c.next_in_rows-g-in-loop-g.ensures in omega (arith, f.from_on, f.to_end, (inner c).loop-g-test.true)

returns-2 : tie.Need-returns invariant-loop decreases-loop
returns-2 c =
    let p = passed c.before in
    record {
      comes = p.comes;
      from_on = p.from_on;
      fitting = λ h. absurd (omega (arith, c.loop-g-test.false, (own-ids (read (prepared c.before))).stop));
      none_before = p.none_before;
    }

pub first_fitting_spec : {M : Type 1} → statement M
first_fitting_spec =
    tie.close
    (tie.spec
    invariant-loop
    decreases-loop
    (λ c. let P = asked c.before.before.before in omega (arith, P.trials.few, P.trials.inside))
    (λ c. (asked c.before.before.before.before).trials.inside)
    (λ c κs. let P = asked c.before.before.before.before in omega (arith, P.trials.relation))
    (λ c. let P = asked c.before.before.before.before.before in omega (arith, P.trials.relation))
    (λ c κs. let P = asked c.before.before.before.before.before in omega (arith, P.trials.relation))
    (λ c. let P = asked (begun c) in omega (arith, P.trials.few, P.by-inside))
    (λ c. (asked (begun c.before)).by-inside)
    rows-for-requires
    next-in-rows-requires
    loop-holds
    (λ l. omega (arith, (own-ids (read (prepared l.before))).begin, (passed l.before).comes.from_first))
    fits-requires
    returns
    (λ c. let l = c.before.before.before in omega (arith, l.loop-g-test.true, (own-ids (read (prepared l.before))).bits.1))
    next-in-rows-requires-2
    loop-less
    loop-again
    returns-2)
