-- What the grammar asks of a token, by the token's kind.
use Rattle.std.specs.Prelude.{Bool, true, false, not, ◌&&◌, ◌||◌}
use denote.Enum.Bare.{sameb}
use Rattle.gql_lex.specs.contracts.token.Punctuator as punctuator
use Rattle.gql_lex.specs.contracts.token.Word as word
use Rattle.gql_lex.specs.declared.token.Punctuator.{Punctuator}
use Rattle.gql_lex.specs.declared.token.Punctuator.TheVariants as p
use Rattle.gql_lex.specs.declared.token.Word.{Word}
use Rattle.gql_lex.specs.declared.token.Word.TheVariants as w
use Rattle.gql_lex.specs.declared.token.TokenKind.{TokenKind}
use Rattle.gql_lex.specs.declared.token.TokenKind.TheVariants as k
use Rattle.gql_reader.specs.declared.expected.Expected.{Expected}
use Rattle.gql_reader.specs.declared.expected.Expected.TheVariants as want

-- `==` on punctuators, and on what names mean
abbrev pub same_punctuator : Punctuator → Punctuator → Bool
same_punctuator = sameb punctuator.the_type

abbrev pub same_word : Word → Word → Bool
same_word = sameb word.the_type

abbrev pub is_punctuator : TokenKind → Punctuator → Bool
is_punctuator (k.Punctuator q) wanted = same_punctuator q wanted
is_punctuator _ wanted = false

abbrev pub is_word : TokenKind → Word → Bool
is_word (k.Name v) wanted = same_word v wanted
is_word _ wanted = false

abbrev pub is_name : TokenKind → Bool
is_name (k.Name v) = true
is_name _ = false

abbrev pub is_scalar : TokenKind → Bool
is_scalar (k.Punctuator q) = false
is_scalar _ = true

abbrev pub is_string : TokenKind → Bool
is_string k.String = true
is_string k.BlockString = true
is_string _ = false

-- a token of this kind is of the wanted
abbrev pub kind_is : Expected → TokenKind → Bool
kind_is (want.Punctuator wanted) kind = is_punctuator kind wanted
kind_is want.Name kind = is_name kind
kind_is want.FragmentName kind = is_name kind && not (is_word kind w.On)
kind_is (want.Word wanted) kind = is_word kind wanted
kind_is want.Scalar kind = is_scalar kind
kind_is (want.VariableUnless constant) kind = not constant && is_punctuator kind p.Dollar
kind_is want.OperationType kind = is_word kind w.Query || is_word kind w.Mutation || is_word kind w.Subscription
kind_is want.Executable kind = not (is_word kind w.TypeSystem) && not (is_string kind)
