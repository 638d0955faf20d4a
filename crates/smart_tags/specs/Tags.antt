-- What the tags of a comment ask for.
use Rattle.std.specs.Prelude.{ℕ, Bool, true, false, ◌==◌, if◌then◌else◌, List, [], ◌∷◌, Option, Some, None, codes, drop}
use Rattle.std.specs.List.{before_first, after_first, slice_split, flat_map, filter_map}
use Rattle.std.specs.Str.{bytes_eq}
use Rattle.pg_base.specs.declared.tags.Tags.{Tags}
use Rattle.smart_tags.specs.Lines.{lines, tag_lines, description_of}

abbrev pub is_space : ℕ → Bool
is_space b = b == 32

-- the word of a tag: what stands between its at sign and its first space
abbrev pub word_of : List ℕ → List ℕ
word_of tag = before_first is_space (drop 1 tag)

-- the value of a tag: what stands after that space
abbrev pub value_of : List ℕ → List ℕ
value_of tag = after_first is_space (drop 1 tag)

-- the value of the first tag with the word
unfoldable pub first_value : List ℕ → List (List ℕ) → Option (List ℕ)
first_value word [] = None
first_value word (tag ∷ tags) = if bytes_eq (word_of tag) word then Some (value_of tag) else first_value word tags

-- the words of a tag that says what is on
abbrev pub behavior_words : List ℕ → List (List ℕ)
behavior_words tag = if bytes_eq (word_of tag) (codes "behavior") then slice_split is_space (value_of tag) else []

-- whether a word turns the thing on or off: `+thing` or `-thing`
abbrev pub setting : List ℕ → List ℕ → Option Bool
setting thing [] = None
setting thing (sign ∷ name) =
    if bytes_eq name thing then (if sign == 43 then Some true else (if sign == 45 then Some false else None))
    else None

abbrev pub last_or : Bool → List Bool → Bool
last_or default [] = default
last_or default (x ∷ xs) = last_or x xs

-- a thing is on, unless its last setting turns it off
unfoldable pub is_on : List ℕ → List (List ℕ) → Bool
is_on thing tags = last_or true (filter_map (setting thing) (flat_map behavior_words tags))

abbrev pub behavior_of : List (List ℕ) → List Bool
behavior_of tags =
    is_on (codes "select") tags ∷ is_on (codes "list") tags ∷ is_on (codes "connection") tags
    ∷ is_on (codes "insert") tags ∷ is_on (codes "update") tags ∷ is_on (codes "delete") tags
    ∷ is_on (codes "order") tags ∷ is_on (codes "filter") tags ∷ []

-- the tags of a comment
abbrev pub tags_of : List ℕ → Tags
tags_of text =
    let tags = tag_lines (lines text) in
    record {
      name = first_value (codes "name") tags;
      field_name = first_value (codes "fieldName") tags;
      foreign_field_name = first_value (codes "foreignFieldName") tags;
      deprecated = first_value (codes "deprecated") tags;
      description = description_of (lines text);
      behavior = behavior_of tags;
    }
