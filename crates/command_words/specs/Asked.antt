-- What the code has of a command.
use Rattle.std.specs.Prelude.{List, map, option_map, String}
use Rattle.std.specs.String.{string_bytes}
use Rattle.clap.specs.Walk.{Text}
use Rattle.command_words.specs.Commands as spec
use Rattle.command_words.specs.declared.command.Command as code
use Rattle.command_words.specs.declared.command.Request as code_request
use Rattle.command_words.specs.declared.command.Command.TheVariants as code_is

abbrev pub request_told : code_request.Request → spec.Request
request_told r = record {
  script = r.script.now;
  document = r.document.now;
  operation = option_map (λ n. n.now) r.operation;
  variables = option_map (λ n. n.now) r.variables;
}

abbrev pub told : code.Command → spec.Command
told (code_is.Check script) = spec.check script.now
told (code_is.Schema script) = spec.schema script.now
told (code_is.Query r) = spec.query (request_told r)
told (code_is.Explain r) = spec.explain (request_told r)

-- the bytes of each word
abbrev pub texts_of : {Z : Type 0} → List (String Z) → List Text
texts_of = map string_bytes
