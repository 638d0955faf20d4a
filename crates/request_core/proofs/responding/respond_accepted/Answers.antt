use Rattle.std.proofs.Common.{ℕ, ◌-◌, ap, ◌∙◌}
use Rattle.request_core.proofs.Replied.{served_on}
use Rattle.request_core.proofs.responding.respond_accepted.Goals as goal

pub returns-clause-served : goal.returns-clause-served
returns-clause-served g c history shows =
    served_on _ _ _ _ _ _ history _ _ _ c.rise_of-statements.result _ c.wanted_of-wanted.ensures
    (c.rise_of-statements.ensures ∙ ap (λ (n : ℕ). g.R.Rows.sent c.respond-response.new.rows - n) c.sent-before.ensures)
    c.response_reply.ensures (c.respond-response.ensures.served history shows)
