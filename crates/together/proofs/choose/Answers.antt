-- `choose` narrows for a tuple chosen: the seeking member to the tuples that seek, then it and the members behind by the value index.
-- From the laws of words narrowed for a tuple.
use Rattle.std.proofs.Common.{◌≡◌, refl, sym, subst, List, ℕ, ◌∙◌, length, get_or, arith}
use borrow.Kind.Array.{e_int, good_length}
use mir.Syntax.{w16}
use Rattle.model.proofs.Bools.{not-both}
use Rattle.value_index.specs.Index.{row_bit}
use Rattle.narrowing.specs.Narrows.{KeptIds, Agreeing, Others, Bare}
use Rattle.narrowing.proofs.Narrowing.{narrowed-one}
use Rattle.together.specs.Together.{Joint, net_of, tuple_at, own_size, ChooseAt}
use Rattle.together.proofs.Places.{joint_of, ids_at}
use Rattle.together.proofs.Choosing.{others-behind, own-differs, Keeping, keeping-pending, keeping-on, none-dead, none_bare}
use Rattle.together.proofs.choose.Goals as goal

-- what the seeking member is narrowed to, twice
keeping-own : {Q : Joint} {index : List ℕ} {k : ℕ} {chosen : List ℕ} {y : ℕ} (A : ChooseAt Q index k chosen y) (sized : length chosen ≡ 4) (pending before kept after : List ℕ) (start end : ℕ) → start ≡ tuple_at Q Q.place 0 → end ≡ tuple_at Q Q.place (own_size Q) → KeptIds (row_bit pending 0) start end before kept → Agreeing (net_of Q) (get_or Q.members k 0) y (get_or Q.members Q.place 0) kept after → Keeping A sized pending before after
keeping-own {Q} {k = k} {y = y} A sized pending before kept after start end s e K W =
    keeping-on A sized pending before kept after (keeping-pending A sized pending start end before kept s e K)
    (narrowed-one (net_of Q) (get_or Q.members k 0) y (get_or Q.members Q.place 0) A.index_in (own-differs A sized) kept after W)

pub keep-requires : goal.keep-requires
keep-requires c =
    let S = c.requires.1.turn.sound in
    let own = ids_at S c.args.place S.place in
    omega (arith, c.tuple_start-end.ensures, own.stop, own.few, c.requires.0.0, c.requires.0.1)

pub narrow_member-requires : goal.narrow_member-requires
narrow_member-requires c =
    let A = c.requires.1 in
    let S = A.turn.sound in
    (c.keep.ensures.0, (record { laid = S.laid; indexed = S.indexed; own = A.index_in }, (ids_at S c.args.place S.place).relation))

pub returns-then-not-narrow_member : goal.returns-then-not-narrow_member
returns-then-not-narrow_member c =
    let A = c.requires.1 in
    let S = A.turn.sound in
    let own = ids_at S c.args.place S.place in
    let sized : length c.args.chosen ≡ 4 = good_length (e_int w16) 4 c.args.chosen _ c.well_formed.1.1.1.1.1.1.1.1.0 in
    let pending = c.args.pending.now in
    let before = c.args.words.now in
    let after = c.narrow_member.new.words in
    let K = keeping-own A sized pending before c.keep.new.words after _ _ (c.tuple_start-first.ensures ∙ own.begin) (c.tuple_start-end.ensures ∙ own.stop) c.keep.ensures.1 c.narrow_member.ensures.1.0 in
    record {
      long = c.narrow_member.ensures.0;
      inside = K.0;
      keeps = K.1;
      agrees = λ e. absurd (not-both e refl);
      none = λ e. none-dead A sized pending before after K (c.narrow_member.ensures.1.1 c.if-not-narrow_member.true);
    }

pub narrow_members-requires : goal.narrow_members-requires
narrow_members-requires c =
    let A = c.requires.1 in
    let S = A.turn.sound in
    let sized : length c.args.chosen ≡ 4 = good_length (e_int w16) 4 c.args.chosen _ c.well_formed.1.1.1.1.1.1.1.1.0 in (
      c.narrow_member.ensures.0,
      (
        record { laid = S.laid; indexed = S.indexed; own = A.index_in },
        subst (λ (on : ℕ). Others c.args.members.now c.args.place on (get_or c.args.members.now c.args.k 0)) (sym c.place_behind-on.ensures) (others-behind A sized),
      ),
    )

pub returns : goal.returns
returns c =
    let A = c.requires.1 in
    let S = A.turn.sound in
    let own = ids_at S c.args.place S.place in
    let sized : length c.args.chosen ≡ 4 = good_length (e_int w16) 4 c.args.chosen _ c.well_formed.1.1.1.1.1.1.1.1.0 in
    let Q = joint_of c.args.variables.now c.args.values.now c.args.starts.now c.args.members.now c.args.place in
    let pending = c.args.pending.now in
    let before = c.args.words.now in
    let narrowed = c.narrow_member.new.words in
    let after = c.narrow_members.new.words in
    let K = keeping-on A sized pending before narrowed after (keeping-own A sized pending before c.keep.new.words narrowed _ _ (c.tuple_start-first.ensures ∙ own.begin) (c.tuple_start-end.ensures ∙ own.stop) c.keep.ensures.1 c.narrow_member.ensures.1.0) c.narrow_members.ensures.1.0 in
    record {
      long = c.narrow_members.ensures.0;
      inside = K.0;
      keeps = K.1;
      agrees = λ e. c.agrees_before.ensures.right c.if-not-agrees_before.false;
      none = λ e. none_bare A sized pending before after K (subst (λ (on : ℕ). Bare (net_of Q) c.args.members.now c.args.place on after) c.place_behind-on.ensures (c.narrow_members.ensures.1.1 e));
    }
