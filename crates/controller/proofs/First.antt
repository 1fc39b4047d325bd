-- The controller's own refusals come before the base's.
use Rattle.questions.specs.Questions.{ask}
use Rattle.controller.specs.Controller.{controller_answer, controller_thread_answer}
use Rattle.controller.specs.Laws.{ProfileFirst}

pub profile_first : ProfileFirst
unfolding controller_answer controller_thread_answer ask
profile_first = record { frame = λ R im f n p h. rw h; thread = λ R im t n p h. rw h }
