-- How a run ends, from what its parts say.
use Rattle.std.proofs.Common.{◌≡◌, ◌⊎◌, inl, inr, ℕ, ◌<◌, ◌≤◌, List, [], ◌∷◌, ◌++◌, length, Option, Some, None, arith, sym, subst}
use Rattle.pg_base.specs.Base.{BaseParts}
use Rattle.pg_base.specs.Lists.{Each}
use Rattle.pg_base.specs.Limits.{most_script_bytes, most_document_bytes, most_variables_bytes}
use Rattle.request_core.specs.Load.{IsLoadFault}
use Rattle.request_core.proofs.OneAnswer.{loads_no_fault}
use Rattle.command_words.specs.Commands.{Command, check, schema, query, explain}
use Rattle.command_words.specs.Commands as words
use Rattle.graphile_prog.specs.Told.{Outside, Output, IfHeld}
use Rattle.graphile_prog.specs.Stages.{Ends, AreRefused, ArePassed, OrMemory}
use Rattle.graphile_prog.specs.Commands.{IsSomeScript, script_stages, variables_stages, request_stages, given_files, files_of, task_of, Wrote, Delivered}
use Rattle.graphile_prog.specs.Parts.{IsPassed, Tells}
use Rattle.graphile_prog.specs.Run.{HasEnd, IsSafe, IsUnhindered, IsComplete}
use Rattle.graphile_prog.specs.declared.status.Status.{Status}
use Rattle.graphile_prog.specs.declared.status.Status.TheVariants as status
use Rattle.graphile_prog.proofs.Order.{ends_refused, ends_passed, passed_split, RefuseNone, none_both, past}
use Rattle.graphile_prog.proofs.Held.{held_apart}

-- a refused command ends so
pub ended_refused : (c : Command) (o : Outside) (out : Output) (answered : Status) → OrMemory (AreRefused (task_of o c).stages) answered → HasEnd (Some c) o out answered
ended_refused c o out answered (inl m) = inl m
ended_refused c o out answered (inr r) = inr (ends_refused (task_of o c).stages (Wrote (task_of o c).writes out) answered r)

-- and one that is performed
pub ended_passed : (c : Command) (o : Outside) (out : Output) (answered : Status) (text : List ℕ) → IsPassed o c text → Delivered text out answered → HasEnd (Some c) o out answered
ended_passed c o out answered text p d =
    inr (ends_passed (task_of o c).stages (Wrote (task_of o c).writes out) answered p.stages (record { text = text; due = p.due; delivered = d }))

-- ---- where nothing hinders

not_both : (n : ℕ) (b : List ℕ) → n < length b → length b ≤ n → ⊥
not_both n b large small = omega (arith, large, small)

script_taken : (o : Outside) (name : List ℕ) → IsSafe o name → ArePassed (script_stages o name) → RefuseNone (script_stages o name)
script_taken o name safe passed = (
  (λ s r. safe.1 r.1.rose),
  (
    (λ s r. held_apart (o.file name) (λ b. most_script_bytes < length b) (λ b. length b ≤ most_script_bytes) safe.0 (not_both most_script_bytes) r.1 passed.1.0),
    (
      (λ s r. held_apart (o.file name) (λ b. IsLoadFault b r.fault) IsSomeScript safe.0 (λ b f some. loads_no_fault b some.0 some.1 r.fault some.2 f) r.cause passed.1.1.0),
      tt,
    ),
  ),
)

variables_taken : (o : Outside) (name : Option (List ℕ)) → Each (IsSafe o) (given_files name) → ArePassed (variables_stages o name) → RefuseNone (variables_stages o name)
variables_taken o None safe passed = tt
variables_taken o (Some name) safe passed = (
  (λ s r. safe.0.1 r.1.rose),
  (
    (λ s r. held_apart (o.file name) (λ b. most_variables_bytes < length b) (λ b. length b ≤ most_variables_bytes) safe.0.0 (not_both most_variables_bytes) r.1 passed.1.0),
    tt,
  ),
)

request_taken : (o : Outside) (q : words.Request) → IsSafe o q.document → Each (IsSafe o) (given_files q.variables) → ArePassed (request_stages o q) → RefuseNone (request_stages o q)
request_taken o q safe given passed = (
  (λ s r. safe.1 r.1.rose),
  (
    (λ s r. held_apart (o.file q.document) (λ b. most_document_bytes < length b) (λ b. length b ≤ most_document_bytes) safe.0 (not_both most_document_bytes) r.1 passed.1.0),
    variables_taken o q.variables given passed.1.1,
  ),
)

request_all : (q : words.Request) (o : Outside) → Each (IsSafe o) (files_of (query q)) → ArePassed (task_of o (query q)).stages → RefuseNone (task_of o (query q)).stages
request_all q o safe passed =
    let split = passed_split (script_stages o q.script) (request_stages o q) passed in
    none_both (script_stages o q.script) (request_stages o q) (script_taken o q.script safe.0 split.0)
    (request_taken o q safe.1.0 safe.1.1 split.1)

taken : (c : Command) (o : Outside) (out : Output) → IsUnhindered o out c → RefuseNone (task_of o c).stages
taken (check script) o out u = script_taken o script u.safe.0 u.passed
taken (schema script) o out u = script_taken o script u.safe.0 u.passed
taken (query q) o out u = request_all q o u.safe u.passed
taken (explain q) o out u = request_all q o u.safe u.passed

unhindered : (c : Command) (o : Outside) (out : Output) (answered : Status) → IsUnhindered o out c
    → Ends (task_of o c).stages (Wrote (task_of o c).writes out) answered → (answered ≡ status.Done) ⊎ (answered ≡ status.Memory)
unhindered c o out answered u e =
    let wrote = past (task_of o c).stages (Wrote (task_of o c).writes out) answered (taken c o out u) e in
    elim wrote.delivered [ inl d ↦ inl d.0 | inr d ↦ absurd (u.written d.1.1) ]

-- what nothing hinders is done, or memory ran out
pub complete : (asked : Option Command) (o : Outside) (out : Output) (answered : Status) → HasEnd asked o out answered → IsComplete asked o out answered
complete None o out answered e = tt
complete (Some c) o out answered (inl m) = λ u. inr m
complete (Some c) o out answered (inr e) = λ u. unhindered c o out answered u e

-- a status that is told is itself, or memory ran out for its line
told : (s t : Status) → Tells s t → (t ≡ s) ⊎ (t ≡ status.Memory)
told status.Done t e = inl e
told status.BadWords t e = inl e
told (status.ScriptRefused f) t e = e
told status.FileFault t e = inl e
told status.WriteFault t e = inl e
told status.TooLarge t e = inl e
told status.Memory t e = inl e

told_end : (c : Command) (o : Outside) (out : Output) (s t : Status) → OrMemory (AreRefused (task_of o c).stages) s → (t ≡ s) ⊎ (t ≡ status.Memory) → HasEnd (Some c) o out t
told_end c o out s t r (inl e) = subst (λ (x : Status). HasEnd (Some c) o out x) (sym e) (ended_refused c o out s r)
told_end c o out s t r (inr e) = inl e

-- of the words' command
pub ended_told : (asked : Option Command) (c : Command) (o : Outside) (out : Output) (s t : Status) → asked ≡ Some c → OrMemory (AreRefused (task_of o c).stages) s → Tells s t → HasEnd asked o out t
ended_told asked c o out s t is r e = subst (λ (a : Option Command). HasEnd a o out t) (sym is) (told_end c o out s t r (told s t e))

pub ended_done : (asked : Option Command) (c : Command) (o : Outside) (out : Output) (answered : Status) (text : List ℕ) → asked ≡ Some c → IsPassed o c text → Delivered text out answered → HasEnd asked o out answered
ended_done asked c o out answered text is p d = subst (λ (a : Option Command). HasEnd a o out answered) (sym is) (ended_passed c o out answered text p d)
