use Rattle.std.proofs.Common.{subst}
use Rattle.request_core.specs.Asked.{asked_parts}
use Rattle.request_core.specs.Prepared.{MayServe}
use Rattle.request_core.proofs.Replied.{refused_on, accepted_on}
use Rattle.request_core.proofs.responding.respond_prepared.Goals as goal

pub respond_accepted-requires-clause-may : goal.respond_accepted-requires-clause-may
respond_accepted-requires-clause-may g c = subst (MayServe c.args.house.now.base (asked_parts c.args.asked.now)) c.in-Accepted.is c.requires.may

pub returns-in-Refused-clause-reply : goal.returns-in-Refused-clause-reply
returns-in-Refused-clause-reply g c history shows =
    refused_on _ _ _ history _ _ c.args.prepared c.in-Refused.text shows c.in-Refused.is c.refusal_reply.ensures c.requires.prepared

pub returns-in-Accepted-clause-reply : goal.returns-in-Accepted-clause-reply
returns-in-Accepted-clause-reply g c history shows =
    accepted_on _ _ _ history _ _ _ _ c.args.prepared c.in-Accepted.tree c.in-Accepted.vars c.in-Accepted.is (c.respond_accepted.ensures.served history shows) c.requires.prepared
