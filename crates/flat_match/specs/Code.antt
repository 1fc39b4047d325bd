-- For the code alone: nothing here has to be believed.
-- What a lookup in one frame answers: the number of the record that it found there, or 41.
use Rattle.std.specs.Prelude.{ℕ, Option, None, Some}
use Rattle.flat_match.specs.declared.MatchAnswer.{MatchAnswer}
use Rattle.flat_match.specs.Find.{not_found}

abbrev pub answer_of : ℕ → Option ℕ → MatchAnswer
answer_of i None = not_found 41
answer_of i (Some k) = record { number = 0; place = 0; frame = i; index = k }
