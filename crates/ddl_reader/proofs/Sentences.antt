-- The reader of statements reads the grammar's statements, and stops where none goes on.
use Rattle.std.proofs.Common.{◌≡◌, ◌⊎◌, inl, inr, ℕ, ◌≤◌, List, [], ◌∷◌, ◌++◌, length, refl, sym, ap, subst, ◌∙◌, append_assoc, Ok, Err}
use Rattle.pg_base.specs.declared.enum_def.EnumDef.{EnumDef}
use Rattle.parse_rules.specs.Parser.{Outcome}
use Rattle.parse_rules.specs.Exact.{SameHead}
use Rattle.parse_rules.proofs.Outcomes.{done_not}
use Rattle.ddl_reader.specs.declared.lexeme.Lexeme.{Lexeme}
use Rattle.ddl_reader.specs.declared.statement.Row.{Row}
use Rattle.ddl_reader.specs.declared.statement.Statement.{Statement}
use Rattle.ddl_reader.specs.Grammar.{IsStatement}
use Rattle.ddl_reader.specs.Statements.{statement_with}
use Rattle.ddl_reader.specs.Sentences.{IsFront, StopsAt}
use Rattle.ddl_reader.proofs.Production.{some_sign, reads, takes_any}
use Rattle.ddl_reader.proofs.StatementsExact.{Ends, statement_exact}

-- two ways to cut a text
fork : (f g r s : List Lexeme) → f ++ r ≡ g ++ s → ((f ≡ g) × (r ≡ s)) ⊎ (((t : Lexeme) × (more : List Lexeme) × (g ≡ f ++ t ∷ more) × (r ≡ t ∷ (more ++ s))) ⊎ ((t : Lexeme) × (more : List Lexeme) × (f ≡ g ++ t ∷ more) × (s ≡ t ∷ (more ++ r))))
fork [] [] r s e = inl (refl, e)
fork [] (u ∷ us) r s e = inr (inl (u, us, refl, e))
fork (t ∷ ts) [] r s e = inr (inr (t, ts, refl, sym e))
fork (t ∷ ts) (u ∷ us) r s e =
    let first : t ≡ u = cc in
    let others : ts ++ r ≡ us ++ s = cc in
    elim (fork ts us r s others) [
      | inl h ↦ inl (ap (λ (w : Lexeme). w ∷ ts) first ∙ ap (λ (w : List Lexeme). u ∷ w) h.0, h.1)
      | inr h ↦ elim h [
        | inl k ↦ inr (inl (k.0, k.1, ap (λ (w : Lexeme). w ∷ us) (sym first) ∙ ap (λ (w : List Lexeme). t ∷ w) k.2, k.3))
        | inr k ↦ inr (inr (k.0, k.1, ap (λ (w : Lexeme). w ∷ ts) first ∙ ap (λ (w : List Lexeme). u ∷ w) k.2, k.3))
      ]
    ]

abbrev stopped_at : List Lexeme → Outcome Lexeme (Statement × List Row)
stopped_at rest = Err rest

module _ (enums : List EnumDef) (number : ℕ) (found : List Row) where
  pub statement-spelled : (ts rest : List Lexeme) (s : Statement × List Row) → statement_with enums number found ts ≡ Ok (s, rest) → IsStatement enums number found ts rest s
  statement-spelled ts rest s e = ((statement_exact enums number found).exact.ok ts rest s e).spelled

  pub statement-read : (ts rest : List Lexeme) (s : Statement × List Row) → IsStatement enums number found ts rest s → statement_with enums number found ts ≡ Ok (s, rest)
  statement-read = reads Ends _ _ (statement_exact enums number found)

  -- what is read isn't stopped at
  both : (ts after rest : List Lexeme) (s : Statement × List Row) → IsStatement enums number found ts after s → statement_with enums number found ts ≡ Err rest → ⊥
  both ts after rest s r e = done_not s after rest (sym (statement-read ts after s r) ∙ e)

  pub statement-stops : (ts rest : List Lexeme) → statement_with enums number found ts ≡ Err rest → StopsAt enums number found ts rest
  statement-stops ts rest e =
      let x = (statement_exact enums number found).exact.err ts rest e in
      record {
        front = x.used;
        whole = x.whole;
        begins = (x.more ++ some_sign 59 ∷ [], some_sign 59 ∷ [], x.made, x.goes_on (some_sign 59 ∷ []) refl);
        unread = λ after s r. both ts after rest s r e;
        none = λ stop after is viable.
            let again = x.same (stop ∷ viable.0) (subst (λ (w : List Lexeme). SameHead w (stop ∷ viable.0)) (sym is) refl) in
            both (x.used ++ (stop ∷ viable.0)) viable.1 (stop ∷ viable.0) viable.2 (subst (λ (w : List Lexeme). IsStatement enums number found w viable.1 viable.2) (append_assoc x.used (stop ∷ []) viable.0) viable.3) again;
      }

  pub statement-shortens : (ts rest : List Lexeme) (s : Statement × List Row) → IsStatement enums number found ts rest s → length rest ≤ length ts
  statement-shortens = takes_any Ends _ _ (statement_exact enums number found)

  -- ---- a text stops at one place

  -- a front of which more is a front
  shorter_front : (front : List Lexeme) (stop : Lexeme) (more : List Lexeme) → IsFront enums number found (front ++ stop ∷ more) → IsFront enums number found (front ++ stop ∷ [])
  shorter_front front stop more x = (more ++ x.0, x.1, x.2, subst (λ (w : List Lexeme). IsStatement enums number found w x.1 x.2) (append_assoc front (stop ∷ more) x.0 ∙ sym (append_assoc front (stop ∷ []) (more ++ x.0))) x.3)

  one_rest : (f g r s : List Lexeme) → f ++ r ≡ g ++ s → IsFront enums number found g → ((stop : Lexeme) (after : List Lexeme) → r ≡ stop ∷ after → IsFront enums number found (f ++ stop ∷ []) → ⊥)
      → IsFront enums number found f → ((stop : Lexeme) (after : List Lexeme) → s ≡ stop ∷ after → IsFront enums number found (g ++ stop ∷ []) → ⊥) → r ≡ s
  one_rest f g r s e begins_g none_f begins_f none_g = elim (fork f g r s e) [
    | inl same ↦ same.1
    | inr apart ↦ absurd (elim apart [
      | inl longer ↦ none_f longer.0 (longer.1 ++ s) longer.3 (shorter_front f longer.0 longer.1 (subst (λ (w : List Lexeme). IsFront enums number found w) longer.2 begins_g))
      | inr longer ↦ none_g longer.0 (longer.1 ++ r) longer.3 (shorter_front g longer.0 longer.1 (subst (λ (w : List Lexeme). IsFront enums number found w) longer.2 begins_f))
    ])
  ]

  pub statement-stopped : (ts rest : List Lexeme) → StopsAt enums number found ts rest → statement_with enums number found ts ≡ Err rest
  statement-stopped ts rest x = by_outcome (statement_with enums number found ts) refl
    where
      by_outcome : (o : Outcome Lexeme (Statement × List Row)) → statement_with enums number found ts ≡ o → statement_with enums number found ts ≡ Err rest
      by_outcome (Ok (s, after)) is = absurd (x.unread after s (statement-spelled ts after s is))
      by_outcome (Err left) is =
          let y = statement-stops ts left is in
          is ∙ ap (λ (w : List Lexeme). stopped_at w) (one_rest y.front x.front left rest (sym y.whole ∙ x.whole) x.begins y.none y.begins x.none)
