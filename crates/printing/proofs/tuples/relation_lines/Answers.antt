-- One live id after the other. From the laws of the next live id, of the lines of a range of ids, of texts written part by part, and of
-- a tuple's line by the starts.
use Rattle.std.proofs.Common.{◌≡◌, ap, ap₂, ◌∙◌, sym, List, ◌∷◌, ◌++◌, ℕ, ◌+◌, ◌*◌, ◌-◌, ◌≤◌, ◌<◌, length, take, drop, length-append, arith}
use Rattle.model.specs.LiveWords.{is_live}
use Rattle.model.specs.Text.{line_text}
use Rattle.model.specs.Listing.{tuple_line}
use Rattle.live.proofs.Ahead.{NextLive, next-id, next-ahead, none-left}
use Rattle.layout.specs.Places.{width_in}
use Rattle.layout.proofs.SoundStarts.{scope-rises, ids-rise, ids-asks, tuple-count}
use Rattle.layout.proofs.Places.{length_part}
use Rattle.printing.specs.Lines.{text_over, rows}
use Rattle.printing.proofs.Appended.{appended-same, remains-all, remains-length, remains-then, remains-same, remains-none}
use Rattle.printing.proofs.Over.{over_none, over_first, over-cons}
use Rattle.printing.proofs.Relations.{few, width-bounds, tuple-inside, tuple-line-is}
use Rattle.printing.proofs.tuples.relation_lines.Goals as goal
use Rattle.printing.proofs.tuples.relation_lines.Goals.{Start, After-wide}

small : (c : Start) → c.args.r < 64
small c = few c.requires.printable.0 c.args.r c.requires.printable.1

-- ---- One tuple

module _ (c : After-wide) where
  next : NextLive c.args.words.now c.tuple_start-end.result c.loop-g.g-iterator.at c.in-Some.g c.next.new.self.at
  next = next-id c.loop-g.invariant.ahead c.in-Some.ensures.steps

  from : c.tuple_start-start.result ≤ c.in-Some.g
  from = omega (arith, next.from, c.loop-g.invariant.ahead.from)

  abbrev w : ℕ
  w = c.variable_start.result - c.variable_start-2.result

  -- where its values begin
  abbrev place : ℕ
  place = c.value_start-first.result + c.wide.result * w

  place_is : place ≡ c.value_start-first.result + (c.in-Some.g - c.tuple_start-start.result) * w
  place_is = ap (λ (i : ℕ). c.value_start-first.result + i * w) c.wide.ensures.0

  wide_read : w ≡ width_in c.args.starts.now c.args.r
  wide_read = ap₂ (λ (e b : ℕ). e - b) c.variable_start.ensures.0 c.variable_start-2.ensures.0

  -- they are there
  room : place + w ≤ length c.args.values.now
  room =
      let p = c.requires.printable in
      omega (arith, place_is, tuple-inside p.0 c.args.r p.1 c.tuple_start-start.result c.tuple_start-end.result c.value_start-first.result w c.tuple_start-start.ensures c.tuple_start-end.ensures c.value_start-first.ensures.0 wide_read c.in-Some.g from next.below)

  abbrev part : List ℕ
  part = take (place + w - place) (drop place c.args.values.now)

  its-line : c.args.r ∷ (c.in-Some.g - c.tuple_start-start.result) ∷ part ≡ tuple_line (rows c.args.starts.now c.args.values.now) c.in-Some.g
  its-line =
      let p = c.requires.printable in
      let e : place + w - place ≡ w = omega arith in
      ap₂ (λ (n i : ℕ). c.args.r ∷ (c.in-Some.g - c.tuple_start-start.result) ∷ take n (drop i c.args.values.now)) e place_is
      ∙ tuple-line-is p.0 c.args.r p.1 c.tuple_start-start.result c.tuple_start-end.result c.value_start-first.result w c.tuple_start-start.ensures c.tuple_start-end.ensures c.value_start-first.ensures.0 wide_read c.in-Some.g from next.below

  part_length : length part ≡ w
  part_length =
      let e : place + w - place ≡ w = omega arith in
      length_part place (place + w) c.args.values.now (omega arith) room ∙ e

  -- the text of the ids ahead is its line, and then the text of those behind it
  text-ahead : let line = tuple_line (rows c.args.starts.now c.args.values.now) in
      let text = text_over line (is_live c.args.words.now) in
      text c.loop-g.g-iterator.at c.tuple_start-end.result ≡ line_text (line c.in-Some.g) ++ text c.next.new.self.at c.tuple_start-end.result
  text-ahead =
      let line = tuple_line (rows c.args.starts.now c.args.values.now) in
      let live = is_live c.args.words.now in
      let end = c.tuple_start-end.result in
      let g = next in
      sym (over_first line live c.loop-g.g-iterator.at end c.in-Some.g (record { from-i = g.from; to_end = omega (arith, g.below); passes = λ h. g.live; none_before = g.none_before }))
      ∙ over-cons line live c.in-Some.g end g.below g.live
      ∙ ap (λ (i : ℕ). line_text (line c.in-Some.g) ++ text_over line live i end) (sym g.behind)

-- ---- The goals

pub tuple_start-start-requires : goal.tuple_start-start-requires
tuple_start-start-requires c = omega (arith, small (goal.at.tuple_start-start-requires c).Start)

pub tuple_start-end-requires : goal.tuple_start-end-requires
tuple_start-end-requires c = omega (arith, small (goal.at.tuple_start-end-requires c).Start)

pub value_start-first-requires : goal.value_start-first-requires
value_start-first-requires c = omega (arith, small (goal.at.value_start-first-requires c).Start)

pub variable_start-requires : goal.variable_start-requires
variable_start-requires c = omega (arith, small (goal.at.variable_start-requires c).Start)

pub variable_start-requires-2 : goal.variable_start-requires-2
variable_start-requires-2 c = omega (arith, small (goal.at.variable_start-requires-2 c).Start)

pub overflow_sub-width : goal.overflow_sub-width
overflow_sub-width c = omega (arith, c.variable_start.ensures.0, c.variable_start-2.ensures.0, scope-rises c.requires.printable.0.framed c.args.r (small (goal.at.overflow_sub-width c).Start))

pub live_ids-g-items-requires : goal.live_ids-g-items-requires
live_ids-g-items-requires c =
    let p = c.requires.printable in
    let rises = ids-rise p.0.framed c.args.r (small (goal.at.live_ids-g-items-requires c).Start) in
    rw c.tuple_start-end.ensures (ids-asks p.0.framed c.args.r (few p.0 c.args.r p.1) c.tuple_start-start.result c.args.words.now (omega (arith, c.tuple_start-start.ensures, rises)) (omega (arith, tuple-count p.0.framed, p.0.all-bits)))

pub loop-g-init : goal.loop-g-init
loop-g-init c =
    let i = c.live_ids-g-items.ensures in
    let line = tuple_line (rows c.args.starts.now c.args.values.now) in
    let rises = ids-rise c.requires.printable.0.framed c.args.r (small (goal.at.loop-g-init c).Start) in
    rw c.into_iter-g-iterator.ensures.into_iter_gives
    (record {
      ahead = record {
        same_words = i.words;
        same_end = i.end;
        from = omega (arith, i.start);
        to_end = omega (arith, i.start, c.tuple_start-start.ensures, c.tuple_start-end.ensures, rises);
      };
      left = remains-same (ap (λ (k : ℕ). text_over line (is_live c.args.words.now) k c.tuple_start-end.result) (sym i.start)) (remains-all (omega (arith, c.requires.r_in_bounds)));
    })

pub slice_bounds-tuple_line-end : goal.slice_bounds-tuple_line-end
slice_bounds-tuple_line-end c = room (goal.at.slice_bounds-tuple_line-end c).After-wide

pub tuple_line-n-requires : goal.tuple_line-n-requires
tuple_line-n-requires c =
    let a = c.args in
    let at = (goal.at.tuple_line-n-requires c).After-wide in
    let left = c.loop-g.invariant.left in
    let p = c.requires.printable in
    let line = tuple_line (rows a.starts.now a.values.now) in
    let text = text_over line (is_live a.words.now) in
    let e = part_length at in
    let whole = ap₂ text c.tuple_start-start.ensures c.tuple_start-end.ensures in (
      omega (arith, e, wide_read at, width-bounds p.0 a.r p.1),
      omega (arith, c.requires.r_in_bounds, left.long, remains-length (omega (arith, c.requires.r_in_bounds)) left, ap length (text-ahead at), length-append (line_text (line c.in-Some.g)) (text c.next.new.self.at c.tuple_start-end.result), ap length whole, ap (λ (vs : List ℕ). length (line_text vs)) (its-line at)),
    )

pub loop-g-preserved : goal.loop-g-preserved
loop-g-preserved c =
    let i = c.loop-g.invariant in
    let at = (goal.at.loop-g-preserved c).After-wide in
    record {
      ahead = next-ahead i.ahead c.in-Some.ensures.steps;
      left = remains-then (remains-same (text-ahead at) i.left) (appended-same (ap line_text (its-line at)) c.tuple_line-n.ensures);
    }

pub returns : goal.returns
returns c =
    let a = c.args in
    let l = c.loop-g in
    let i = l.invariant in
    let line = tuple_line (rows a.starts.now a.values.now) in
    let live = is_live a.words.now in
    let none = over_none line live l.g-iterator.at c.tuple_start-end.result i.ahead.to_end (none-left i.ahead c.in-None.ensures.steps) in
    appended-same (ap₂ (text_over line live) c.tuple_start-start.ensures c.tuple_start-end.ensures) (remains-none (remains-same none i.left))
