-- What words mean in a script, whatever their case. No word stands for two things, so they are told by their length.
use Rattle.std.specs.Prelude.{ℕ, Bool, ◌==◌, if◌then◌else◌, List, [], ◌∷◌, length, codes}
use Rattle.std.specs.List.{list_any}
use Rattle.std.specs.Str.{str_eq_ignore_ascii_case}
use denote.Enum.Bare.{sameb}
use Rattle.ddl_reader.specs.contracts.word.Word as words
use Rattle.ddl_reader.specs.declared.word.Word.{Word}
use Rattle.ddl_reader.specs.declared.word.Word.TheVariants as word

-- `==` on words
abbrev pub same_word : Word → Word → Bool
same_word = sameb words.the_type

unfoldable pub of_two : List ℕ → Word
of_two spelling =
    if str_eq_ignore_ascii_case spelling (codes "as") then word.As
    else (if str_eq_ignore_ascii_case spelling (codes "if") then word.If
    else (if str_eq_ignore_ascii_case spelling (codes "on") then word.On
    else (if str_eq_ignore_ascii_case spelling (codes "by") then word.By
    else (if str_eq_ignore_ascii_case spelling (codes "is") then word.Is
    else (if str_eq_ignore_ascii_case spelling (codes "no") then word.No
    else word.Other)))))

unfoldable pub of_three : List ℕ → Word
of_three spelling =
    if str_eq_ignore_ascii_case spelling (codes "set") then word.Set
    else (if str_eq_ignore_ascii_case spelling (codes "not") then word.Not
    else (if str_eq_ignore_ascii_case spelling (codes "key") then word.Key
    else (if str_eq_ignore_ascii_case spelling (codes "add") then word.Add
    else (if str_eq_ignore_ascii_case spelling (codes "int") then word.IntegerType
    else word.Other))))

unfoldable pub of_four : List ℕ → Word
of_four spelling =
    if str_eq_ignore_ascii_case spelling (codes "type") then word.Type
    else (if str_eq_ignore_ascii_case spelling (codes "enum") then word.Enum
    else (if str_eq_ignore_ascii_case spelling (codes "into") then word.Into
    else (if str_eq_ignore_ascii_case spelling (codes "null") then word.Null
    else (if str_eq_ignore_ascii_case spelling (codes "true") then word.True
    else (if str_eq_ignore_ascii_case spelling (codes "like") then word.Like
    else (if str_eq_ignore_ascii_case spelling (codes "text") then word.TextType
    else (if str_eq_ignore_ascii_case spelling (codes "int4") then word.IntegerType
    else (if str_eq_ignore_ascii_case spelling (codes "int8") then word.BigIntType
    else (if str_eq_ignore_ascii_case spelling (codes "bool") then word.BooleanType
    else (if str_eq_ignore_ascii_case spelling (codes "only") then word.Only
    else word.Other))))))))))

unfoldable pub of_five : List ℕ → Word
of_five spelling =
    if str_eq_ignore_ascii_case spelling (codes "begin") then word.Begin
    else (if str_eq_ignore_ascii_case spelling (codes "start") then word.Start
    else (if str_eq_ignore_ascii_case spelling (codes "table") then word.Table
    else (if str_eq_ignore_ascii_case spelling (codes "alter") then word.Alter
    else (if str_eq_ignore_ascii_case spelling (codes "index") then word.Index
    else (if str_eq_ignore_ascii_case spelling (codes "check") then word.Check
    else (if str_eq_ignore_ascii_case spelling (codes "false") then word.False
    else word.Other))))))

unfoldable pub of_six : List ℕ → Word
of_six spelling =
    if str_eq_ignore_ascii_case spelling (codes "commit") then word.Commit
    else (if str_eq_ignore_ascii_case spelling (codes "create") then word.Create
    else (if str_eq_ignore_ascii_case spelling (codes "exists") then word.Exists
    else (if str_eq_ignore_ascii_case spelling (codes "column") then word.Column
    else (if str_eq_ignore_ascii_case spelling (codes "values") then word.Values
    else (if str_eq_ignore_ascii_case spelling (codes "unique") then word.Unique
    else (if str_eq_ignore_ascii_case spelling (codes "delete") then word.Delete
    else (if str_eq_ignore_ascii_case spelling (codes "update") then word.Update
    else (if str_eq_ignore_ascii_case spelling (codes "action") then word.Action
    else (if str_eq_ignore_ascii_case spelling (codes "insert") then word.Insert
    else (if str_eq_ignore_ascii_case spelling (codes "select") then word.Select
    else (if str_eq_ignore_ascii_case spelling (codes "bigint") then word.BigIntType
    else (if str_eq_ignore_ascii_case spelling (codes "serial") then word.SerialType
    else (if str_eq_ignore_ascii_case spelling (codes "always") then word.Always
    else word.Other)))))))))))))

unfoldable pub of_seven : List ℕ → Word
of_seven spelling =
    if str_eq_ignore_ascii_case spelling (codes "comment") then word.Comment
    else (if str_eq_ignore_ascii_case spelling (codes "default") then word.Default
    else (if str_eq_ignore_ascii_case spelling (codes "primary") then word.Primary
    else (if str_eq_ignore_ascii_case spelling (codes "foreign") then word.Foreign
    else (if str_eq_ignore_ascii_case spelling (codes "exclude") then word.Exclude
    else (if str_eq_ignore_ascii_case spelling (codes "collate") then word.Collate
    else (if str_eq_ignore_ascii_case spelling (codes "varchar") then word.Varchar
    else (if str_eq_ignore_ascii_case spelling (codes "integer") then word.IntegerType
    else (if str_eq_ignore_ascii_case spelling (codes "boolean") then word.BooleanType
    else (if str_eq_ignore_ascii_case spelling (codes "varying") then word.Varying
    else (if str_eq_ignore_ascii_case spelling (codes "serial4") then word.SerialType
    else (if str_eq_ignore_ascii_case spelling (codes "serial8") then word.BigSerialType
    else word.Other)))))))))))

unfoldable pub of_eight : List ℕ → Word
of_eight spelling =
    if str_eq_ignore_ascii_case spelling (codes "identity") then word.Identity
    else (if str_eq_ignore_ascii_case spelling (codes "restrict") then word.Restrict
    else word.Other)

unfoldable pub of_nine : List ℕ → Word
of_nine spelling =
    if str_eq_ignore_ascii_case spelling (codes "extension") then word.Extension
    else (if str_eq_ignore_ascii_case spelling (codes "generated") then word.Generated
    else (if str_eq_ignore_ascii_case spelling (codes "returning") then word.Returning
    else (if str_eq_ignore_ascii_case spelling (codes "character") then word.Character
    else (if str_eq_ignore_ascii_case spelling (codes "bigserial") then word.BigSerialType
    else word.Other))))

unfoldable pub of_ten : List ℕ → Word
of_ten spelling =
    if str_eq_ignore_ascii_case spelling (codes "constraint") then word.Constraint
    else (if str_eq_ignore_ascii_case spelling (codes "references") then word.References
    else word.Other)

-- the word of this spelling
unfoldable pub word_of : List ℕ → Word
word_of spelling =
    if length spelling == 2 then of_two spelling
    else (if length spelling == 3 then of_three spelling
    else (if length spelling == 4 then of_four spelling
    else (if length spelling == 5 then of_five spelling
    else (if length spelling == 6 then of_six spelling
    else (if length spelling == 7 then of_seven spelling
    else (if length spelling == 8 then of_eight spelling
    else (if length spelling == 9 then of_nine spelling
    else (if length spelling == 10 then of_ten spelling
    else word.Other))))))))

-- the words that name nothing unless they are quoted
abbrev pub is_reserved : Word → Bool
is_reserved w = list_any (same_word w) (word.Check ∷ word.Constraint ∷ word.Create ∷ word.Default ∷ word.False
    ∷ word.Foreign ∷ word.Not ∷ word.Null ∷ word.On ∷ word.Only ∷ word.Primary ∷ word.References ∷ word.Table
    ∷ word.True ∷ word.Unique ∷ [])
