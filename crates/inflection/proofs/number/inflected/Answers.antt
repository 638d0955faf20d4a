use Rattle.std.proofs.Common.{◌≡◌, ◌≢◌, ◌-◌, ◌++◌, ◌∙◌, ℕ, take, drop, sym, ap, ap₂, arith}
use Rattle.std.proofs.lemmas.Grind.{common_steps}
use Rattle.std.specs.List.{between}
use Rattle.std.specs.Str.{str_to_ascii_lowercase}
use Rattle.name_rules.specs.Inflection.{Ending}
use Rattle.name_rules.specs.Parts.{last_part_start, last_part_end}
use Rattle.inflection.specs.Number.{ending_of}
use Rattle.inflection.specs.Views.{ending_view}
use Rattle.inflection.proofs.Pieces.{name_of_same, put_together, ending_in, ending_in_fits}
use Rattle.inflection.proofs.number.inflected.Goals as goal
use Rattle.inflection.proofs.number.inflected.Goals.{After-ending_of-ending}

-- the ending is that of the last part
found : (c : After-ending_of-ending) → ending_view c.ending_of-ending.result ≡ ending_in c.args.number c.args.name.now
found c =
    let lower = ap₂ (λ (s e : ℕ). str_to_ascii_lowercase (between s e c.args.name.now)) c.last_part-part.ensures.start c.last_part-part.ensures.end in
    c.ending_of-ending.ensures ∙ ap (ending_of c.args.number) (c.as_slice.ensures.value ∙ c.in_ok-word.ensures.ok ∙ lower)

pub returns-then-part : goal.returns-then-part
returns-then-part c =
    let same = name_of_same c.args.number c.args.name.now (sym c.last_part-part.ensures.start ∙ c.if-part.true ∙ c.last_part-part.ensures.end) in
    rw same c.from_slice.ensures.items

pub slice_bounds-extend_from_slice-count : goal.slice_bounds-extend_from_slice-count
slice_bounds-extend_from_slice-count c =
    let is = ap (λ (e : Ending). e.cut) (found (goal.at.slice_bounds-extend_from_slice-count c).After-ending_of-ending) in
    omega (arith, ending_in_fits c.args.number c.args.name.now, is, c.last_part-part.ensures.end)

pub returns : goal.returns
returns c =
    let name = c.args.name.now in
    let end = c.last_part-part.result.end in
    let e = ending_view c.ending_of-ending.result in
    let three : c.extend_from_slice-3.new.self.items ≡ take (end - e.cut) name ++ e.added ++ drop end name = grind (arith, common_steps) in
    let apart : last_part_start name ≢ last_part_end name = λ same. c.if-part.false (c.last_part-part.ensures.start ∙ same ∙ sym c.last_part-part.ensures.end) in
    three ∙ put_together c.args.number name end e apart c.last_part-part.ensures.end (found (goal.at.returns c).After-ending_of-ending)
