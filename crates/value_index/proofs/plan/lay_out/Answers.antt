use Rattle.std.proofs.Common.{arith}
use Rattle.layout.proofs.SoundStarts.{scope-rises, tuple-count, tuples-few}
use Rattle.layout.proofs.Places.{scope-within}
use Rattle.layout.specs.Setting.{Lists, SoundLists}
use Rattle.value_index.specs.Planning.{ScopesWithin}
use Rattle.value_index.proofs.Planning.{numbered-full, laid_out}
use Rattle.value_index.proofs.plan.lay_out.Goals as goal

scopes : {L : Lists} → SoundLists L → ScopesWithin L.starts L.variables
scopes laid = record { rises = λ r h. scope-rises laid.framed r h; inside = λ r h. scope-within laid r h }

pub lay_scopes-requires : goal.lay_scopes-requires
lay_scopes-requires c = (c.requires.0, scopes c.requires.1)

pub words_of_row-words-requires : goal.words_of_row-words-requires
words_of_row-words-requires c = omega (arith, tuple-count c.requires.1.framed, tuples-few c.requires.1.framed)

pub most_columns-requires : goal.most_columns-requires
most_columns-requires c = scopes c.requires.1

pub lay_relations-requires : goal.lay_relations-requires
lay_relations-requires c = (numbered-full c.lay_scopes.new.index c.lay_scopes.ensures c.words_of_row-words.result c.digits_for-digits.result, scopes c.requires.1)

pub returns : goal.returns
returns c =
    laid_out c.lay_scopes.new.index c.lay_scopes.ensures c.words_of_row-words.result c.digits_for-digits.result _ c.lay_relations.ensures.1 _ c.lay_relations.ensures.0 c.digits_for-digits.ensures c.words_of_row-words.ensures.1
    (omega (arith, tuple-count c.requires.1.framed, c.words_of_row-words.ensures.2))
