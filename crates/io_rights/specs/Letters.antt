-- Sets of operations as text.
use Rattle.std.specs.Prelude.{ℕ, ◌==◌, if◌then◌else◌, List, [], ◌∷◌, Option, Some, None, filter, map}
use Rattle.std.specs.List.{list_any}
use Rattle.std.specs.Str.{bytes_eq}
use Rattle.io_rights.specs.declared.operations.Operation.{Operation}
use Rattle.io_rights.specs.declared.operations.Operation.TheVariants as op
use Rattle.io_rights.specs.Operations.{OperationSet, has, set_of, operations}

-- each operation's letter, in ASCII: c r w x g u e t m
abbrev pub letter_of : Operation → ℕ
letter_of op.Connect = 99
letter_of op.ReadBytes = 114
letter_of op.WriteBytes = 119
letter_of op.Execute = 120
letter_of op.GetAttributes = 103
letter_of op.UpdateAttributes = 117
letter_of op.Enumerate = 101
letter_of op.Traverse = 116
letter_of op.ModifyDirectory = 109

-- a text in which no operation is named is written as a dash
abbrev pub or_dash : List ℕ → List ℕ
or_dash [] = 45 ∷ []
or_dash (letter ∷ letters) = letter ∷ letters

-- the letters of the set's operations, in the operations' order; a dash for none
unfoldable pub letters_of : OperationSet → List ℕ
letters_of set = or_dash (map letter_of (filter (has set) operations))

-- the operations whose letters stand in the text
abbrev pub named_in : List ℕ → OperationSet
named_in text = set_of (λ operation. list_any (λ byte. byte == letter_of operation) text)

-- the set whose letters are the text
unfoldable pub rights_of : List ℕ → Option OperationSet
rights_of text = if bytes_eq (letters_of (named_in text)) text then Some (named_in text) else None
