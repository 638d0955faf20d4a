-- What a reply tells of the request that it answers.
use Rattle.std.proofs.Common.{◌≡◌, ◌⊎◌, inl, inr, ℕ, ◌-◌, ◌≤◌, Bool, true, false, List, [], length, Option, Some, None, Result, Ok, Err, refl, sym, ap, ◌∙◌, subst, arith}
use Rattle.std.specs.Prelude.{nat_lt, if◌then◌else◌}
use Rattle.pg_base.specs.Base.{BaseParts}
use Rattle.pg_base.specs.Limits.{most_places}
use Rattle.pg_base.specs.declared.vars.Vars.{Vars}
use Rattle.gql_collect.specs.Trees.{tree_of}
use Rattle.gql_reader.specs.declared.tree.Document.{Document}
use Rattle.rel_model.specs.declared.tables.Tables.{Tables}
use Rattle.place_tree.specs.declared.place.Tree.{Tree}
use Rattle.stmt_tree.specs.Form.{Rose}
use Rattle.plan_cache.specs.Shelf.{Asked, Shows}
use Rattle.plan_steps.specs.View.{Planned}
use Rattle.planned_response.specs.Responses.{AreTold, IsStoreFault, RespondsOver}
use Rattle.planned_response.specs.declared.fault.RespondFault.{RespondFault}
use Rattle.planned_response.specs.declared.fault.RespondFault.TheVariants as fault
use Rattle.kept_responses.specs.Counts.{Counts}
use Rattle.kept_responses.specs.Kept.{KeptParts}
use Rattle.kept_responses.specs.Served.{IsRun, IsRunBy, IsFound, IsMade, IsStopped, Serves}
use Rattle.kept_responses.specs.declared.response.KeptResponse.{KeptResponse}
use Rattle.http_sessions.specs.declared.reply.Reply.{Reply}
use Rattle.http_sessions.specs.declared.reply.ReplyBytes.{ReplyBytes}
use Rattle.http_sessions.specs.declared.reply.ReplyBytes.TheVariants.{Made, NoMemory}
use Rattle.request_core.specs.declared.preparing.Prepared.{Prepared}
use Rattle.request_core.specs.declared.preparing.Prepared.TheVariants as prepared_is
use Rattle.request_core.specs.Answer.{executed_answer, Executes}
use Rattle.request_core.specs.Asked.{AskedParts, EndsAsked, IsAnswerTo, wanted_with}
use Rattle.request_core.specs.Prepared.{IsRefused, Prepares, IsPreparedFor}
use Rattle.request_core.specs.Refusals.{storage_fault, too_large, too_many}
use Rattle.request_core.specs.House.{HouseParts}
use Rattle.request_core.specs.Replied.{untold, RepliesAs, ServesFor}
use Rattle.request_core.specs.Reply.{status_of, bytes_of, reply_of, answer_reply, Service, IsUnserved, IsRefusedWith, IsServed, RepliesBy, Replies, IsReply, service, RepliesOn, ServedOn}
use Rattle.request_core.proofs.Answered.{shown_is, large_is, no_fault, refused_same, never_both, same_tree, same_vars}
use Rattle.request_core.proofs.AskedTrees.{request_for}
use Rattle.request_core.proofs.EndsOn.{body_on}
use Rattle.request_core.proofs.Housed.{shows_still}

-- ---- a request for whose response there is no memory

module _ (base : BaseParts) (held : Option Tables) (wanted : Asked) (tree : Tree) (history entered : List KeptParts) (before now : Counts) where
  untold_run : (kept : KeptParts) (answer : Result (List ℕ) RespondFault) → IsRunBy base held wanted tree kept before now answer
      → IsRunBy base held wanted tree kept before now (Err fault.Memory)
  untold_run kept answer by = record {
    base_ = by.base_;
    tree_ = by.tree_;
    fits = by.fits;
    sound = by.sound;
    run = record {
      response = λ tables told. tt;
      got = by.run.got;
      rises = by.run.rises;
      sent = by.run.sent;
      needs = by.run.needs;
      asked = λ tables told. tt;
      faults = by.run.faults;
      cause = λ x. absurd x;
    };
  }

  pub untold_serves : (response : KeptResponse) → Serves base held wanted tree history entered before now response
      → Serves base held wanted tree history entered before now (untold response)
  untold_serves response (inl found) = inl (record {
    kept = found.kept;
    look = found.look;
    none_planned = found.none_planned;
    none_made = found.none_made;
    none_entered = found.none_entered;
    run = untold_run found.kept response.answer found.run;
  })
  untold_serves response (inr (inl made)) = inr (inl (record {
    kept = made.kept;
    look = made.look;
    planned_ = made.planned_;
    made = made.made;
    entered_ = made.entered_;
    key = made.key;
    run = untold_run made.kept response.answer made.run;
  }))
  untold_serves response (inr (inr stopped)) = inr (inr (record {
    memory = refl;
    look = stopped.look;
    made = stopped.made;
    none_entered = stopped.none_entered;
    none_sent = stopped.none_sent;
    none_got = stopped.none_got;
    none_failed = stopped.none_failed;
  }))

-- ---- from what the request comes to before a plan is looked for

module _ (base : BaseParts) (held : Option Tables) (a : AskedParts) (front : ℕ) (s : Service) where
  refused_by : (text : List ℕ) (wanted : Asked) (tree : Tree) (vars : Vars) (b : Bool) → IsRefusedWith front s text
      → prepared_is.Refused text ≡ (if b then prepared_is.Refused too_many else prepared_is.Accepted tree vars)
      → RepliesBy b base held wanted tree front s
  refused_by text wanted tree vars true u e = subst (λ (t : List ℕ). IsRefusedWith front s t) (refused_same text too_many e) u
  refused_by text wanted tree vars false u e = absurd (never_both text tree vars e)

  -- it is refused
  pub replies_refused : (prepared : Prepared) (text : List ℕ) → prepared ≡ prepared_is.Refused text → IsRefusedWith front s text
      → IsPreparedFor base a prepared → IsReply base held a front s
  replies_refused prepared text is u ends =
      inr (body_on base.schema (IsRefused prepared) (IsRefusedWith front s)
      (λ refused e. subst (λ (t : List ℕ). IsRefusedWith front s t) (refused_same text refused (sym is ∙ e)) u)
      (request_for a) (Prepares base prepared) (Replies base held a front s)
      (λ read place vars there e.
      let tree = tree_of base.schema read place vars in
      refused_by text (wanted_with a vars) tree vars (nat_lt most_places (length tree.places)) u (sym is ∙ e))
      a.given ends)

  served_by : (tree other : Tree) (vars more : Vars) (b : Bool) → IsServed base held (wanted_with a vars) tree front s
      → prepared_is.Accepted tree vars ≡ (if b then prepared_is.Refused too_many else prepared_is.Accepted other more)
      → RepliesBy b base held (wanted_with a more) other front s
  served_by tree other vars more true served e = absurd (never_both too_many tree vars (sym e))
  served_by tree other vars more false served e =
      subst (λ (t : Tree). IsServed base held (wanted_with a more) t front s) (same_tree tree other vars more e)
      (subst (λ (v : Vars). IsServed base held (wanted_with a v) tree front s) (same_vars tree other vars more e) served)

  -- it is served
  pub replies_served : (prepared : Prepared) (tree : Tree) (vars : Vars) → prepared ≡ prepared_is.Accepted tree vars
      → IsServed base held (wanted_with a vars) tree front s → IsPreparedFor base a prepared → IsReply base held a front s
  replies_served prepared tree vars is served ends =
      inr (body_on base.schema (IsRefused prepared) (IsRefusedWith front s) (λ refused e. absurd (never_both refused tree vars (sym e ∙ is)))
      (request_for a) (Prepares base prepared) (Replies base held a front s)
      (λ read place more there e.
      let other = tree_of base.schema read place more in
      served_by tree other vars more (nat_lt most_places (length other.places)) served (sym is ∙ e))
      a.given ends)

-- ---- the text of a reply, over a store that never fails

made_same : (x y : List ℕ) → Made x ≡ Made y → x ≡ y
made_same x y e = cc

never_made : (x : List ℕ) → NoMemory ≡ Made x → ⊥
never_made x e = cc

module _ (base : BaseParts) (tables : Tables) (held : Option Tables) (told : AreTold base.catalog held tables) (text : List ℕ)
    (before now : Counts) (first : before.faults ≡ 0) (last : now.faults ≡ 0) where
  answer_is : (vars : Vars) (tree : Tree) (answer : Result (List ℕ) RespondFault) → RespondsOver base tables vars tree answer
      → (IsStoreFault answer → Rose before.faults now.faults) → bytes_of answer ≡ Made text → text ≡ executed_answer base tables vars tree
  answer_is vars tree (Ok t) r cause e = sym (made_same t text e) ∙ shown_is base tables vars tree t r
  answer_is vars tree (Err fault.Store) r cause e = absurd (no_fault before.faults now.faults first last (cause tt))
  answer_is vars tree (Err fault.TooLarge) r cause e = sym (made_same too_large text e) ∙ large_is base tables vars tree r
  answer_is vars tree (Err fault.Memory) r cause e = absurd (never_made text e)

  module _ (wanted : Asked) (tree : Tree) where
    run_is : (kept : KeptParts) (answer : Result (List ℕ) RespondFault) → IsRunBy base held wanted tree kept before now answer
        → bytes_of answer ≡ Made text → text ≡ executed_answer base tables wanted.vars tree
    run_is kept answer by e =
        let p : Planned = kept.planned in
        let there = subst (λ (b : BaseParts). AreTold b.catalog held tables) (sym by.base_) told in
        let r = subst (λ (b : BaseParts). RespondsOver b tables wanted.vars tree answer) by.base_
        (subst (λ (t : Tree). RespondsOver p.base tables wanted.vars t answer) by.tree_ (by.run.response tables there)) in
        answer_is wanted.vars tree answer r by.run.cause e

    serves_is : (history entered : List KeptParts) (response : KeptResponse) → Serves base held wanted tree history entered before now response
        → bytes_of response.answer ≡ Made text → text ≡ executed_answer base tables wanted.vars tree
    serves_is history entered response (inl found) e = run_is found.kept response.answer found.run e
    serves_is history entered response (inr (inl made)) e = run_is made.kept response.answer made.run e
    serves_is history entered response (inr (inr stopped)) e = absurd (never_made text (ap bytes_of (sym stopped.memory) ∙ e))

module _ (base : BaseParts) (tables : Tables) (held : Option Tables) (told : AreTold base.catalog held tables) (text : List ℕ)
    (a : AskedParts) (front : ℕ) (s : Service) (first : s.before.faults ≡ 0) (last : s.now.faults ≡ 0) (made : s.reply.bytes ≡ Made text) where
  bytes_are : (n : ℕ) (response : KeptResponse) → s.reply ≡ reply_of front n response → bytes_of response.answer ≡ Made text
  bytes_are n response e = sym (ap (λ (r : Reply). r.bytes) e) ∙ made

  refusal_is : (refused : List ℕ) → IsRefusedWith front s refused → text ≡ refused
  refusal_is refused u = sym (made_same refused text (bytes_are 0 (record { answer = Ok refused; planned = false }) u.told))

  reply_by : (b : Bool) (vars : Vars) (tree : Tree) → RepliesBy b base held (wanted_with a vars) tree front s
      → text ≡ (if b then too_many else executed_answer base tables vars tree)
  reply_by true vars tree u = refusal_is too_many u
  reply_by false vars tree served =
      serves_is base tables held told text s.before s.now first last (wanted_with a vars) tree s.history s.entered served.response served.serves
      (bytes_are served.statements served.response served.told)

  -- the text of a reply is the answer to what was asked
  pub reply_answers : IsReply base held a front s → IsAnswerTo base tables a text
  reply_answers (inl u) = absurd (never_made text (bytes_are 0 (record { answer = Err fault.Memory; planned = false }) u.told))
  reply_answers (inr ends) =
      body_on base.schema (IsRefusedWith front s) (λ refused. text ≡ refused) refusal_is (request_for a) (Replies base held a front s) (Executes base tables text)
      (λ read place vars there r.
      let tree = tree_of base.schema read place vars in
      reply_by (nat_lt most_places (length tree.places)) vars tree r)
      a.given ends

-- ---- on a house of one's own

-- what was sent never falls
module _ (base : BaseParts) (held : Option Tables) (wanted : Asked) (tree : Tree) (history entered : List KeptParts) (before now : Counts) where
  sent_rises : (response : KeptResponse) → Serves base held wanted tree history entered before now response → before.sent ≤ now.sent
  sent_rises response (inl found) = found.run.run.rises
  sent_rises response (inr (inl made)) = made.run.run.rises
  sent_rises response (inr (inr stopped)) = omega (arith, stopped.none_sent)

pub served_on : (house after : HouseParts) (held : Option Tables) (mine wanted : Asked) (tree : Tree) (history : List KeptParts) (before now : Counts)
    (response : KeptResponse) (statements : ℕ) (reply : Reply) → mine ≡ wanted → statements ≡ now.sent - before.sent → RepliesAs statements response reply
    → ServesFor house after held mine tree history before now response → ServedOn house after held wanted tree 0 history before now reply
served_on house after held mine wanted tree history before now response statements reply same count (inl e) on = record {
  entered = on.entered;
  shows = on.shows;
  served = record {
    response = response;
    statements = statements;
    serves = subst (λ (w : Asked). Serves house.base held w tree history on.entered before now response) same on.serves;
    sent = (let rises = sent_rises house.base held mine tree history on.entered before now response on.serves in omega (arith, rises, count));
    told = e;
  };
}
served_on house after held mine wanted tree history before now response statements reply same count (inr e) on = record {
  entered = on.entered;
  shows = on.shows;
  served = record {
    response = untold response;
    statements = statements;
    serves = untold_serves house.base held wanted tree history on.entered before now response
        (subst (λ (w : Asked). Serves house.base held w tree history on.entered before now response) same on.serves);
    sent = (let rises = sent_rises house.base held mine tree history on.entered before now response on.serves in omega (arith, rises, count));
    told = e;
  };
}

module _ (house : HouseParts) (held : Option Tables) (a : AskedParts) (history : List KeptParts) where
  pub refused_on : (still : Counts) (reply : Reply) (prepared : Prepared) (text : List ℕ) → Shows house.shelf history → prepared ≡ prepared_is.Refused text
      → reply ≡ answer_reply 0 (Ok text) → IsPreparedFor house.base a prepared → RepliesOn house house held a 0 history still still reply
  refused_on still reply prepared text shows is told ends = record {
    entered = [];
    shows = shows_still house.shelf history shows;
    replies = replies_refused house.base held a 0 (service history [] still still reply) prepared text is
        (record { told = told; none_entered = refl; still = refl }) ends;
  }

  pub memory_on : (still : Counts) (reply : Reply) → Shows house.shelf history → reply ≡ answer_reply 0 (Err fault.Memory)
      → RepliesOn house house held a 0 history still still reply
  memory_on still reply shows told = record {
    entered = [];
    shows = shows_still house.shelf history shows;
    replies = inl (record { told = told; none_entered = refl; still = refl });
  }

  pub accepted_on : (after : HouseParts) (before now : Counts) (reply : Reply) (prepared : Prepared) (tree : Tree) (vars : Vars)
      → prepared ≡ prepared_is.Accepted tree vars → ServedOn house after held (wanted_with a vars) tree 0 history before now reply
      → IsPreparedFor house.base a prepared → RepliesOn house after held a 0 history before now reply
  accepted_on after before now reply prepared tree vars is on ends = record {
    entered = on.entered;
    shows = on.shows;
    replies = replies_served house.base held a 0 (service history on.entered before now reply) prepared tree vars is on.served ends;
  }

  pub on_answers : (after : HouseParts) (before now : Counts) (reply : Reply) (tables : Tables) (text : List ℕ) → RepliesOn house after held a 0 history before now reply
      → AreTold house.base.catalog held tables → before.faults ≤ now.faults → now.faults ≡ 0 → reply.bytes ≡ Made text → IsAnswerTo house.base tables a text
  on_answers after before now reply tables text on told rises last made =
      let first : before.faults ≡ 0 = omega (arith, rises, last) in
      reply_answers house.base tables held told text a 0 (service history on.entered before now reply) first last made on.replies
