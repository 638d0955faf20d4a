-- How a request is served, from what its look found, what was made and what was run.
use Rattle.std.proofs.Common.{◌≡◌, ℕ, ◌+◌, Bool, true, false, List, [], ◌∷◌, ◌++◌, inl, inr, Option, Some, None, Result, Err, refl, sym, ap, subst, ◌∙◌, append-nil, arith}
use Rattle.rel_model.specs.declared.tables.Tables.{Tables}
use Rattle.place_tree.specs.declared.place.Tree.{Tree}
use Rattle.plan_cache.specs.Shelf.{Asked, Answers, IsOldest, Look, Shelved, Shows, key_of, live}
use Rattle.plan_steps.specs.View.{Planned, IsSoundFor}
use Rattle.planned_response.specs.declared.fault.RespondFault.{RespondFault}
use Rattle.planned_response.specs.declared.fault.RespondFault.TheVariants as fault
use Rattle.planned_response.specs.Plans.{IsMadeFor}
use Rattle.kept_responses.specs.Counts.{Counts, counts}
use Rattle.kept_responses.specs.Kept.{KeptParts, kept_parts, key_for, AsksFor, Fits}
use Rattle.kept_responses.specs.Served.{IsRun, ServesOn}
use Rattle.kept_responses.specs.declared.response.KeptResponse.{KeptResponse}
use Rattle.kept_responses.proofs.Fitting.{same_tree}

abbrev response : Result (List ℕ) RespondFault → Bool → KeptResponse
response answer planned = record { answer = answer; planned = planned }

module _ (held : Option Tables) (asked : Asked) (tree : Tree) (history : List KeptParts) (shelf after : Shelved KeptParts) where
  same_shows : Shows after history → Shows after (history ++ [])
  same_shows shows = subst (Shows after) (sym (append-nil history)) shows

  answers_of : (kept : KeptParts) (entries : List KeptParts) → IsOldest key_for asked entries (Some kept)
      → Answers asked (key_for kept)
  answers_of kept entries (older, younger, stands, none, answers) = answers

  -- found, and run
  pub found_run : (kept ran : KeptParts) → ran ≡ kept → AsksFor shelf.base asked tree → Shows after history
      → Look key_for asked history (Some kept) → kept.planned.base ≡ shelf.base → Fits ran → IsSoundFor ran.planned
      → (before now : Counts) → now.plans ≡ before.plans → (answer : Result (List ℕ) RespondFault)
      → IsRun ran.planned held asked.vars before now answer
      → ServesOn shelf after held asked tree history before now (response answer false)
  found_run kept ran same asks shows look based fits sound before now plans answer run =
      let fits_kept = subst Fits same fits in
      let is_tree = same_tree shelf.base asked tree asks kept fits_kept based (answers_of kept (live history) look) in
      record {
        entered = [];
        shows = same_shows shows;
        serves = inl (record {
          kept = kept;
          look = look;
          none_planned = refl;
          none_made = plans;
          none_entered = refl;
          run = record {
            base_ = based;
            tree_ = is_tree;
            fits = fits_kept;
            sound = subst (λ (k : KeptParts). IsSoundFor k.planned) same sound;
            run = subst (λ (k : KeptParts). IsRun k.planned held asked.vars before now answer) same run;
          };
        });
      }

  -- made, entered, and run
  pub made_run : (kept : KeptParts) (made : Planned) → kept ≡ kept_parts asked.text asked.operation made
      → IsMadeFor shelf.base tree asked.vars made → Look key_for asked history None
      → Shows after (history ++ kept ∷ []) → Fits kept → IsSoundFor kept.planned
      → (before now : Counts) → now.plans ≡ before.plans + 1 → (answer : Result (List ℕ) RespondFault)
      → IsRun kept.planned held asked.vars before now answer
      → ServesOn shelf after held asked tree history before now (response answer true)
  made_run kept made same is look shows fits sound before now plans answer run = record {
    entered = kept ∷ [];
    shows = shows;
    serves = inr (inl (record {
      kept = kept;
      look = look;
      planned_ = refl;
      made = plans;
      entered_ = refl;
      key = ap key_for same ∙ ap (key_of asked.text asked.operation) is.constraints_;
      run = record {
        base_ = ap (λ (k : KeptParts). k.planned.base) same ∙ is.base_;
        tree_ = ap (λ (k : KeptParts). k.planned.tree) same ∙ is.tree_;
        fits = fits;
        sound = sound;
        run = run;
      };
    }));
  }

  -- stopped with a plan, and without one
  pub stopped_made : Look key_for asked history None → Shows after history → (sent got faults plans : ℕ)
      → ServesOn shelf after held asked tree history (counts sent got faults plans) (counts sent got faults (plans + 1))
      (response (Err fault.Memory) true)
  stopped_made look shows sent got faults plans = record {
    entered = [];
    shows = same_shows shows;
    serves = inr (inr (record {
      memory = refl;
      look = λ e. look;
      made = refl;
      none_entered = refl;
      none_sent = refl;
      none_got = refl;
      none_failed = refl;
    }));
  }

  never_true : false ≡ true → ⊥
  never_true e = cc

  no_more : (n : ℕ) → n ≡ n + 0
  no_more n = omega arith

  pub stopped : Shows after history → (sent got faults plans later : ℕ) → later ≡ plans
      → ServesOn shelf after held asked tree history (counts sent got faults plans) (counts sent got faults later)
      (response (Err fault.Memory) false)
  stopped shows sent got faults plans later same = record {
    entered = [];
    shows = same_shows shows;
    serves = inr (inr (record {
      memory = refl;
      look = λ e. absurd (never_true e);
      made = same ∙ no_more plans;
      none_entered = refl;
      none_sent = refl;
      none_got = refl;
      none_failed = refl;
    }));
  }

  -- stopped once a plan was counted, before it was there
  pub stopped_counted : Look key_for asked history None → Shows after history → (sent got faults plans later : ℕ)
      → later ≡ plans + 1
      → ServesOn shelf after held asked tree history (counts sent got faults plans) (counts sent got faults later)
      (response (Err fault.Memory) true)
  stopped_counted look shows sent got faults plans later same = record {
    entered = [];
    shows = same_shows shows;
    serves = inr (inr (record {
      memory = refl;
      look = λ e. look;
      made = same;
      none_entered = refl;
      none_sent = refl;
      none_got = refl;
      none_failed = refl;
    }));
  }
