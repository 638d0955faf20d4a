use Rattle.std.proofs.Common.{◌++◌, ◌∷◌, [], ◌∙◌, sym, ap, List, ℕ}
use Rattle.request_core.proofs.OneAnswer.{loads_one_answer}
use Rattle.graphile_prog.proofs.laws.files_have_one_response.Goals as goal

pub returns : goal.returns
returns c script text other request a b =
    a.shown ∙ ap (λ (l : List ℕ). l ++ 10 ∷ []) (loads_one_answer script request a.base b.base a.tables b.tables a.response b.response a.loads b.loads a.answer b.answer) ∙ sym b.shown
