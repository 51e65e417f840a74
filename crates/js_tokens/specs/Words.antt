-- The reserved words and the marks.
use Rattle.std.specs.Prelude.{ℕ, Bool, List, [], ◌∷◌, codes}
use Rattle.std.specs.List.{list_any}
use Rattle.std.specs.Str.{bytes_eq}

-- ECMA-262 3rd edition, 7.5.2, 7.8.1, 7.8.2 and 7.5.3
unfoldable pub reserved_words : List (List ℕ)
reserved_words =
    codes "break" ∷ codes "case" ∷ codes "catch" ∷ codes "continue" ∷ codes "default" ∷ codes "delete" ∷ codes "do" ∷ codes "else"
    ∷ codes "finally" ∷ codes "for" ∷ codes "function" ∷ codes "if" ∷ codes "in" ∷ codes "instanceof" ∷ codes "new" ∷ codes "return"
    ∷ codes "switch" ∷ codes "this" ∷ codes "throw" ∷ codes "try" ∷ codes "typeof" ∷ codes "var" ∷ codes "void" ∷ codes "while"
    ∷ codes "with" ∷ codes "null" ∷ codes "true" ∷ codes "false"
    ∷ codes "abstract" ∷ codes "boolean" ∷ codes "byte" ∷ codes "char" ∷ codes "class" ∷ codes "const" ∷ codes "debugger" ∷ codes "double"
    ∷ codes "enum" ∷ codes "export" ∷ codes "extends" ∷ codes "final" ∷ codes "float" ∷ codes "goto" ∷ codes "implements" ∷ codes "import"
    ∷ codes "int" ∷ codes "interface" ∷ codes "long" ∷ codes "native" ∷ codes "package" ∷ codes "private" ∷ codes "protected" ∷ codes "public"
    ∷ codes "short" ∷ codes "static" ∷ codes "super" ∷ codes "synchronized" ∷ codes "throws" ∷ codes "transient" ∷ codes "volatile" ∷ []

unfoldable pub is_reserved : List ℕ → Bool
is_reserved word = list_any (bytes_eq word) reserved_words

-- ECMA-262 3rd edition, 7.7
unfoldable pub marks : List (List ℕ)
marks =
    codes "{" ∷ codes "}" ∷ codes "(" ∷ codes ")" ∷ codes "[" ∷ codes "]" ∷ codes "." ∷ codes ";" ∷ codes ","
    ∷ codes "<" ∷ codes ">" ∷ codes "<=" ∷ codes ">=" ∷ codes "==" ∷ codes "!=" ∷ codes "===" ∷ codes "!=="
    ∷ codes "+" ∷ codes "-" ∷ codes "*" ∷ codes "/" ∷ codes "%" ∷ codes "++" ∷ codes "--" ∷ codes "<<" ∷ codes ">>" ∷ codes ">>>"
    ∷ codes "&" ∷ codes "|" ∷ codes "^" ∷ codes "!" ∷ codes "~" ∷ codes "&&" ∷ codes "||" ∷ codes "?" ∷ codes ":"
    ∷ codes "=" ∷ codes "+=" ∷ codes "-=" ∷ codes "*=" ∷ codes "/=" ∷ codes "%=" ∷ codes "<<=" ∷ codes ">>=" ∷ codes ">>>="
    ∷ codes "&=" ∷ codes "|=" ∷ codes "^=" ∷ []

unfoldable pub is_mark : List ℕ → Bool
is_mark text = list_any (bytes_eq text) marks
