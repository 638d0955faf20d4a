-- What tokens stand for, by the grammar.
use Rattle.std.proofs.Common.{◌≡◌, ℕ, ◌+◌, ◌-◌, ◌<◌, List, ◌∷◌, ◌++◌, length, get_or, take, drop, refl, sym, ap, subst, ◌∙◌, arith}
use Rattle.std.proofs.Math.Seq.{take-append_seam}
use Rattle.gql_lex.specs.declared.token.TokenKind.{TokenKind}
use Rattle.gql_lex.specs.declared.token.TokenKind.TheVariants as k
use Rattle.gql_lex.specs.declared.token.Token.{Token}
use Rattle.gql_lex.specs.declared.front.Front.{Front}
use Rattle.gql_lex.specs.declared.front.Front.TheVariants as f
use Rattle.gql_lex.specs.Strings.{string_value}
use Rattle.gql_lex.specs.Block.{raw_value, block_string_value}
use Rattle.gql_lex.specs.Front.{front_of}
use Rattle.gql_lex.specs.Lex.{text_of, IsTokenOf}
use Rattle.gql_lex.specs.Value.{spelled_value, token_text, token_value}
use Rattle.gql_lex.specs.Grammar.{three_quotes, Spells}
use Rattle.gql_lex.proofs.Scans.{split}
use Rattle.gql_lex.proofs.BlockValues.{block_value_is}
use Rattle.gql_lex.proofs.TokenTexts.{inside, block_inside, spelling_is}
use Rattle.gql_lex.proofs.StringTexts.{string_value_is, block_raw}
use Rattle.gql_lex.proofs.Fronts.{IsToken, FrontIs, front_ignored, front_token, front_invalid, front_open, front_is}

string_spelled : (text value : List ℕ) → Spells k.String text value → Spells k.String text (spelled_value k.String text)
string_spelled text value h =
    let same : spelled_value k.String text ≡ value = ap (string_value 0) (inside text h.0 h.1.1) ∙ string_value_is h.0 value h.1.0 in
    subst (Spells k.String text) (sym same) h

block_spelled : (text value : List ℕ) → Spells k.BlockString text value → Spells k.BlockString text (spelled_value k.BlockString text)
block_spelled text value h =
    let raw = h.1 in
    let r = block_raw h.0 raw h.2.0 in
    let whole : text ≡ 34 ∷ 34 ∷ 34 ∷ (r.front ++ three_quotes) = h.2.1.1 ∙ ap (λ (w : List ℕ). 34 ∷ 34 ∷ 34 ∷ w) r.split in
    let same : spelled_value k.BlockString text ≡ block_string_value raw = ap (λ (w : List ℕ). block_string_value (raw_value 0 w)) (block_inside text r.front whole) ∙ ap block_string_value r.value in
    subst (Spells k.BlockString text) (sym same) (h.0, raw, (h.2.0, (block_value_is raw, h.2.1.1)))

spells : (kind : TokenKind) (text value : List ℕ) → Spells kind text value → Spells kind text (spelled_value kind text)
spells (k.Punctuator x) text value h = (h.0, refl)
spells (k.Name x) text value h = (h.0, refl)
spells k.Int text value h = (h.0, refl)
spells k.Float text value h = (h.0, refl)
spells k.String text value h = string_spelled text value h
spells k.BlockString text value h = block_spelled text value h

pub token_of : (z : List ℕ) (kind : TokenKind) (n : ℕ) (x : Front) → FrontIs z x → x ≡ f.Token kind n → IsToken z kind n
token_of z kind n _ (front_ignored m some long g) e = absurd (let q : f.Ignored m ≡ f.Token kind n = e in cc q)
token_of z kind n _ (front_token kind' m begins t) e =
    let a : kind' ≡ kind = cc e in
    let b : m ≡ n = cc e in
    subst (λ (y : TokenKind). IsToken z y n) a (subst (IsToken z kind') b t)
token_of z kind n _ (front_invalid begins h) e = absurd (let q : f.Invalid ≡ f.Token kind n = e in cc q)
token_of z kind n _ (front_open h) e = absurd (let q : f.Unterminated ≡ f.Token kind n = e in cc q)

pub value_spelled : (bytes : List ℕ) (token : Token) → IsTokenOf bytes token → Spells token.kind (token_text bytes token) (token_value bytes token)
value_spelled bytes token h =
    let text = text_of bytes in
    let z = drop token.from text in
    let n = token.to - token.from in
    let lt : token.from < length text = omega (arith, h.0, h.1) in
    let is = subst (λ (w : List ℕ). FrontIs w (front_of w)) (sym (split text token.from lt)) (front_is (get_or text token.from 0) (drop (token.from + 1) text)) in
    let t = token_of z token.kind n (front_of z) is h.2 in
    let same : token_text bytes token ≡ t.text = spelling_is bytes token h ∙ ap (λ (i : ℕ). take i z) (sym t.long) ∙ ap (take (length t.text)) t.split ∙ take-append_seam t.text t.rest in
    subst (λ (w : List ℕ). Spells token.kind w (spelled_value token.kind w)) (sym same) (spells token.kind t.text t.value t.spelled)
