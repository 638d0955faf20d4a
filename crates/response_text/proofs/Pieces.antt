-- Errors, piece by piece.
use Rattle.std.proofs.Common.{◌≡◌, ℕ, Bool, true, false, List, ◌∷◌, ◌++◌, codes, decimal, refl, sym, ap, ◌∙◌, append_assoc}
use Rattle.pg_base.specs.declared.pos.Pos.{Pos}
use Rattle.json_out.specs.JsonText.{json_text}
use Rattle.place_tree.specs.declared.event.Event.{Event}
use Rattle.place_tree.specs.Response.{PathPart, FieldError, path_text, error_text, more_errors}
use Rattle.place_tree.specs.Events.{path_behind, error_at, events_errors}
use Rattle.response_text.specs.Paths.{message_piece, place_piece, path_piece, error_pieces, before_error, errors_left}

pub left_error : (some : Bool) (e : FieldError) (es : List FieldError) → before_error some ++ (error_text e ++ errors_left true es) ≡ errors_left some (e ∷ es)
left_error false e es = refl
left_error true e es = ap (λ l. codes "," ++ l) (sym (append_assoc (error_text e) (more_errors es) (codes "],")))

-- what the errors left are behind an event
pub step_errors : (path after : List PathPart) (e : Event) (rest events : List Event) → events ≡ e ∷ rest → after ≡ path_behind e path
    → error_at e path (events_errors after rest) ≡ events_errors path events
step_errors path after e rest events is passed =
    ap (λ p. error_at e path (events_errors p rest)) passed ∙ ap (events_errors path) (sym is)

abbrev made : List ℕ → Pos → List PathPart → FieldError
made message pos path = record { message = message; pos = pos; path = path }

regrouped : (a m b l c k d p z : List ℕ) → (a ++ m) ++ (((b ++ l) ++ (c ++ k)) ++ (d ++ (p ++ z))) ≡ a ++ (m ++ (b ++ (l ++ (c ++ (k ++ (d ++ (p ++ z)))))))
regrouped a m b l c k d p z =
    append_assoc a m (((b ++ l) ++ (c ++ k)) ++ (d ++ (p ++ z)))
    ∙ ap (λ x. a ++ (m ++ x)) (
    append_assoc (b ++ l) (c ++ k) (d ++ (p ++ z)) ∙ append_assoc b l ((c ++ k) ++ (d ++ (p ++ z)))
    ∙ ap (λ x. b ++ (l ++ x)) (append_assoc c k (d ++ (p ++ z)))
    )

whole : (message : List ℕ) (pos : Pos) (path : List PathPart) → error_pieces message pos path ≡ error_text (made message pos path)
unfolding message_piece place_piece path_piece
whole message pos path =
    regrouped (codes "{\"message\":") (json_text message) (codes ",\"locations\":[{\"line\":") (decimal pos.line)
    (codes ",\"column\":") (decimal pos.column) (codes "}],\"path\":[") (path_text path) (codes "]}")

-- the next error, behind what stands before it
pub next_error : (before middle now : List ℕ) (some : Bool) (message : List ℕ) (pos : Pos) (path root : List PathPart) (errors : List FieldError)
    → middle ≡ before ++ before_error some → now ≡ middle ++ error_pieces message pos path → root ≡ path
    → now ++ errors_left true errors ≡ before ++ errors_left some (made message pos root ∷ errors)
next_error before middle now some message pos path root errors a b same =
    let e = made message pos root in
    let text = whole message pos path ∙ ap (λ p. error_text (made message pos p)) (sym same) in
    ap (λ l. l ++ errors_left true errors) (b ∙ ap (λ l. middle ++ l) text ∙ ap (λ l. l ++ error_text e) a)
    ∙ append_assoc (before ++ before_error some) (error_text e) (errors_left true errors)
    ∙ append_assoc before (before_error some) (error_text e ++ errors_left true errors)
    ∙ ap (λ l. before ++ l) (left_error some e errors)
