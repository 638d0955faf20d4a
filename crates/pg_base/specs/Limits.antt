-- The limits, each the greatest number that is accepted.
use Rattle.std.specs.Prelude.{ℕ, List, [], ◌∷◌}

-- bytes of a script
abbrev pub most_script_bytes : ℕ
most_script_bytes = 67108864

-- bytes of a document
abbrev pub most_document_bytes : ℕ
most_document_bytes = 65536

-- bytes of a file of variables
abbrev pub most_variables_bytes : ℕ
most_variables_bytes = 1048576

-- tables of a catalog
abbrev pub most_tables : ℕ
most_tables = 200

-- enums of a catalog
abbrev pub most_enums : ℕ
most_enums = 200

-- columns of a table
abbrev pub most_columns : ℕ
most_columns = 100

-- cases of an enum
abbrev pub most_cases : ℕ
most_cases = 200

-- keys and links of a table together
abbrev pub most_constraints : ℕ
most_constraints = 64

-- columns of a key or of a link
abbrev pub most_key_columns : ℕ
most_key_columns = 8

-- bytes of the name of a table, column, key, link or enum
abbrev pub most_name_bytes : ℕ
most_name_bytes = 63

-- rows of a table
abbrev pub most_rows : ℕ
most_rows = 1000000

-- bytes of a text in a row
abbrev pub most_text_bytes : ℕ
most_text_bytes = 1048576

-- fields of all object types of a schema together
abbrev pub most_fields : ℕ
most_fields = 20000

-- tokens of a document
abbrev pub most_tokens : ℕ
most_tokens = 8192

-- brackets that are open at one place of a document
abbrev pub most_open_brackets : ℕ
most_open_brackets = 64

-- places of a request's tree
abbrev pub most_places : ℕ
most_places = 2000

-- rows that a request visits
abbrev pub most_visited_rows : ℕ
most_visited_rows = 200000

-- bytes of a response's text
abbrev pub most_response_bytes : ℕ
most_response_bytes = 67108864

-- bytes of the head of an HTTP request
abbrev pub most_head_bytes : ℕ
most_head_bytes = 16384

-- lines of such a head after the first
abbrev pub most_head_lines : ℕ
most_head_lines = 64

-- bytes of the body of an HTTP request
abbrev pub most_body_bytes : ℕ
most_body_bytes = 1048576

-- replies of one session
abbrev pub most_replies : ℕ
most_replies = 1000000

-- entries of the journal, where the command line names no other number
abbrev pub most_entries : ℕ
most_entries = 1000000

-- plans that are kept for reuse at one time
abbrev pub most_plans : ℕ
most_plans = 64

-- all of them, in this order
abbrev pub limits : List ℕ
limits =
    most_script_bytes ∷ most_document_bytes ∷ most_variables_bytes ∷ most_tables ∷ most_enums ∷ most_columns
    ∷ most_cases ∷ most_constraints ∷ most_key_columns ∷ most_name_bytes ∷ most_rows ∷ most_text_bytes
    ∷ most_fields ∷ most_tokens ∷ most_open_brackets ∷ most_places ∷ most_visited_rows ∷ most_response_bytes
    ∷ most_head_bytes ∷ most_head_lines ∷ most_body_bytes ∷ most_replies ∷ most_entries ∷ most_plans ∷ []
