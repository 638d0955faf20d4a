use Rattle.std.proofs.Common.{◌≡◌, ◌+◌, ◌-◌, ◌∙◌, ℕ, List, sym, ap, take, drop, Result, Ok, Err}
use Rattle.pg_base.specs.declared.pos.PosCounter.{PosCounter}
use Rattle.pg_base.specs.declared.pos.Pos.{Pos}
use Rattle.pg_base.specs.Pos.{start, counter_after, position_after}
use Rattle.sql_lex.specs.declared.token.Piece.{Piece}
use Rattle.sql_lex.specs.Faults.{not_utf8}
use Rattle.sql_lex.specs.declared.token.Token.{Token}
use Rattle.sql_lex.specs.declared.token.LexFault.{LexFault}
use Rattle.sql_lex.specs.Lex.{fault_at}
use Rattle.sql_lex.proofs.Answering.{place_on, first_token-found, first_token-bad}
use Rattle.sql_lex.proofs.PlainTokens.{piece_plain, piece_utf8}
use Rattle.sql_lex.proofs.lex.token_of.Goals as goal

-- the token with the position that the counter has
placed_at : (z : List ℕ) (p : PosCounter) (at : ℕ) (piece : Piece) → p ≡ counter_after start (take piece.from z)
    → record { kind = piece.kind; from = piece.from; «to» = piece.«to»; pos = position_after (take piece.from z) } ≡ (let t : Token = record { kind = piece.kind; from = piece.from; «to» = piece.«to»; pos = p.pos } in t)
placed_at z p at piece e = ap (λ (q : PosCounter). let t : Token = record { kind = piece.kind; from = piece.from; «to» = piece.«to»; pos = q.pos } in t) (sym e)

here_is : (z : List ℕ) (p : PosCounter) (at from : ℕ) → p ≡ counter_after start (take at z) → from ≡ at → p ≡ counter_after start (take from z)
here_is z p at from e k = e ∙ ap (λ (i : ℕ). counter_after start (take i z)) (sym k)

token_same : (z : List ℕ) (p : PosCounter) (at : ℕ) (piece : Piece) (t : Token) (r : Result Token LexFault)
    → r ≡ Ok (record { kind = piece.kind; from = piece.from; «to» = piece.«to»; pos = position_after (take piece.from z) }) → p ≡ counter_after start (take piece.from z)
    → t ≡ record { kind = piece.kind; from = piece.from; «to» = piece.«to»; pos = p.pos } → r ≡ Ok t
token_same z p at piece t r e k h = e ∙ ap Ok (placed_at z p at piece k ∙ sym h)

to_same : (t : Token) (piece : Piece) (p : Pos) (z : List ℕ) → t ≡ record { kind = piece.kind; from = piece.from; «to» = piece.«to»; pos = p } → counter_after start (take piece.«to» z) ≡ counter_after start (take t.«to» z)
to_same t piece p z e = ap (λ (x : Token). counter_after start (take x.«to» z)) (sym e)

pub pass_plain-requires : goal.pass_plain-requires
pass_plain-requires c =
    let e = c.requires.found in
    piece_plain c.args.text.now c.args.at c.args.piece e.3 c.if-piece-at.true e.1 e.2 (sym c.is_plain_kind.ensures ∙ c.if-is_plain_kind.true)

pub returns-then-is_plain_kind-clause-token : goal.returns-then-is_plain_kind-clause-token
returns-then-is_plain_kind-clause-token c =
    let e = c.requires.found in
    let z = c.args.text.now in
    let plain = sym c.is_plain_kind.ensures ∙ c.if-is_plain_kind.true in
    token_same z c.args.place c.args.at c.args.piece _ _
    (first_token-found z c.args.at c.args.piece e.3 e.0 e.1 e.2 (piece_utf8 z c.args.at c.args.piece e.3 c.if-piece-at.true e.1 e.2 plain))
    (here_is z _ c.args.at c.args.piece.from c.requires.place c.if-piece-at.true) c.placed-token.ensures

pub returns-then-is_plain_kind-clause-place : goal.returns-then-is_plain_kind-clause-place
returns-then-is_plain_kind-clause-place c =
    let e = c.requires.found in
    let z = c.args.text.now in
    let place = here_is z _ c.args.at c.args.piece.from c.requires.place c.if-piece-at.true in
    c.pass_plain.ensures ∙ ap (λ (p : PosCounter). counter_after p (take (c.args.piece.«to» - c.args.piece.from) (drop c.args.piece.from z))) place
    ∙ sym (place_on z c.args.piece.from c.args.piece.«to» e.1) ∙ to_same _ c.args.piece _ z c.placed-token.ensures

pub returns-in-Ok-clause-token : goal.returns-in-Ok-clause-token
returns-in-Ok-clause-token c =
    let e = c.requires.found in
    let z = c.args.text.now in
    let place : c.pass_all-front.result ≡ counter_after start (take c.args.piece.from z) =
    c.pass_all-front.ensures ∙ ap (λ (p : PosCounter). counter_after p (take (c.args.piece.from - c.args.at) (drop c.args.at z))) c.requires.place ∙ sym (place_on z c.args.at c.args.piece.from e.0) in
    token_same z c.pass_all-front.result c.args.at c.args.piece _ _ (first_token-found z c.args.at c.args.piece e.3 e.0 e.1 e.2 c.in-Ok.ensures.cases.1) place c.placed-token-in-Ok.ensures

pub returns-in-Ok-clause-place : goal.returns-in-Ok-clause-place
returns-in-Ok-clause-place c =
    let e = c.requires.found in
    let z = c.args.text.now in
    let place : c.pass_all-front.result ≡ counter_after start (take c.args.piece.from z) =
    c.pass_all-front.ensures ∙ ap (λ (p : PosCounter). counter_after p (take (c.args.piece.from - c.args.at) (drop c.args.at z))) c.requires.place ∙ sym (place_on z c.args.at c.args.piece.from e.0) in
    c.pass_all.ensures ∙ ap (λ (p : PosCounter). counter_after p (take (c.args.piece.«to» - c.args.piece.from) (drop c.args.piece.from z))) place
    ∙ sym (place_on z c.args.piece.from c.args.piece.«to» e.1) ∙ to_same _ c.args.piece _ z c.placed-token-in-Ok.ensures

pub returns-in-Err-clause-token : goal.returns-in-Err-clause-token
returns-in-Err-clause-token c =
    let e = c.requires.found in
    let z = c.args.text.now in
    let up = c.valid_up_to.ensures ∙ c.in-Err.ensures.valid_len in
    first_token-bad z c.args.at c.args.piece e.3 e.0 e.1 e.2 c.in-Err.ensures.cases.0
    ∙ ap (λ (n : ℕ). Err (fault_at not_utf8 z (c.args.at + n))) (sym up) ∙ ap Err (sym c.fault_of.ensures)
