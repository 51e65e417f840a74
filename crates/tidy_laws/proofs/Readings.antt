-- Each token of the tidied text as the grammar sees it.
use Rattle.std.proofs.Common.{◌≡◌, ℕ, ◌+◌, List, [], ◌++◌, length, Option, Some, None, refl, sym, subst, ◌∙◌}
use Rattle.std.specs.Prelude.{codes}
use Rattle.js_grammar.specs.declared.Sign.{Sign}
use Rattle.js_grammar.specs.declared.Sign.TheVariants as sign
use Rattle.js_parser.specs.Signs.{sign_as, words, marks}
use Rattle.js_print.specs.Spelling.{name_bytes}
use Rattle.js_tokens.specs.declared.token.TokenKind.{TokenKind}
use Rattle.js_tokens.specs.declared.token.TokenKind.TheVariants as kind
use Rattle.js_tokens.specs.Words.{is_reserved, reserved_words}
use Rattle.js_tokens.specs.Lexes.{Spelled}
use Rattle.js_tokens.specs.Value.{text_between}
use Rattle.tidy_laws.specs.Proper.{IsProper}
use Rattle.tidy_laws.specs.Told.{TokenIs, as_name, as_number, as_string, as_fixed, fixed_of}
use Rattle.tidy_laws.proofs.Words.{IsWord, slice_middle, letters_word, name_word, number_word, string_word, string_text, mark_word, name_stands, number_stands}

-- these bytes are read as a token of this sign and text
pub record Reading (w : List ℕ) (s : Sign) (text : List ℕ) : Type 0 where
  pub k : TokenKind
  pub word : IsWord k w
  pub sign_is : sign_as k w ≡ s
  pub text_is : (pre post : List ℕ) → text_between k (pre ++ (w ++ post)) (length pre) (length pre + length w) ≡ text

name_reading : (text : List ℕ) → Spelled kind.Name text [] → Reading (name_bytes text) sign.Name text
name_reading text n = record {
  k = kind.Name;
  word = subst (IsWord kind.Name) (sym (name_stands text n)) (name_word text n);
  sign_is = refl;
  text_is = λ pre post. slice_middle pre (name_bytes text) post (length pre) (length pre + length (name_bytes text)) refl refl ∙ name_stands text n;
}

number_reading : (text : List ℕ) → Spelled kind.Number text [] → Reading (name_bytes text) sign.Number text
number_reading text n = record {
  k = kind.Number;
  word = subst (IsWord kind.Number) (sym (number_stands text n)) (number_word text n);
  sign_is = refl;
  text_is = λ pre post. slice_middle pre (name_bytes text) post (length pre) (length pre + length (name_bytes text)) refl refl ∙ number_stands text n;
}

word_reading : (w : List ℕ) (s : Sign) → IsWord kind.Reserved w → sign_as kind.Reserved w ≡ s → Reading w s w
word_reading w s is e = record { k = kind.Reserved; word = is; sign_is = e; text_is = λ pre post. slice_middle pre w post (length pre) (length pre + length w) refl refl }

mark_reading : (w : List ℕ) (s : Sign) → IsWord kind.Mark w → sign_as kind.Mark w ≡ s → Reading w s w
mark_reading w s is e = record { k = kind.Mark; word = is; sign_is = e; text_is = λ pre post. slice_middle pre w post (length pre) (length pre + length w) refl refl }

abbrev FixedReading : Sign → Option (List ℕ) → Type 0
FixedReading s None = Unit {0}
FixedReading s (Some w) = Reading w s w

fixed_reading : (s : Sign) → FixedReading s (fixed_of s)
unfolding is_reserved reserved_words words marks
fixed_reading sign.Break = word_reading (codes "break") sign.Break (letters_word 98 (codes "reak") refl refl refl) refl
fixed_reading sign.Case = word_reading (codes "case") sign.Case (letters_word 99 (codes "ase") refl refl refl) refl
fixed_reading sign.Catch = word_reading (codes "catch") sign.Catch (letters_word 99 (codes "atch") refl refl refl) refl
fixed_reading sign.Continue = word_reading (codes "continue") sign.Continue (letters_word 99 (codes "ontinue") refl refl refl) refl
fixed_reading sign.Default = word_reading (codes "default") sign.Default (letters_word 100 (codes "efault") refl refl refl) refl
fixed_reading sign.Delete = word_reading (codes "delete") sign.Delete (letters_word 100 (codes "elete") refl refl refl) refl
fixed_reading sign.Do = word_reading (codes "do") sign.Do (letters_word 100 (codes "o") refl refl refl) refl
fixed_reading sign.Else = word_reading (codes "else") sign.Else (letters_word 101 (codes "lse") refl refl refl) refl
fixed_reading sign.Finally = word_reading (codes "finally") sign.Finally (letters_word 102 (codes "inally") refl refl refl) refl
fixed_reading sign.For = word_reading (codes "for") sign.For (letters_word 102 (codes "or") refl refl refl) refl
fixed_reading sign.Function = word_reading (codes "function") sign.Function (letters_word 102 (codes "unction") refl refl refl) refl
fixed_reading sign.If = word_reading (codes "if") sign.If (letters_word 105 (codes "f") refl refl refl) refl
fixed_reading sign.In = word_reading (codes "in") sign.In (letters_word 105 (codes "n") refl refl refl) refl
fixed_reading sign.InstanceOf = word_reading (codes "instanceof") sign.InstanceOf (letters_word 105 (codes "nstanceof") refl refl refl) refl
fixed_reading sign.New = word_reading (codes "new") sign.New (letters_word 110 (codes "ew") refl refl refl) refl
fixed_reading sign.Return = word_reading (codes "return") sign.Return (letters_word 114 (codes "eturn") refl refl refl) refl
fixed_reading sign.Switch = word_reading (codes "switch") sign.Switch (letters_word 115 (codes "witch") refl refl refl) refl
fixed_reading sign.This = word_reading (codes "this") sign.This (letters_word 116 (codes "his") refl refl refl) refl
fixed_reading sign.Throw = word_reading (codes "throw") sign.Throw (letters_word 116 (codes "hrow") refl refl refl) refl
fixed_reading sign.Try = word_reading (codes "try") sign.Try (letters_word 116 (codes "ry") refl refl refl) refl
fixed_reading sign.TypeOf = word_reading (codes "typeof") sign.TypeOf (letters_word 116 (codes "ypeof") refl refl refl) refl
fixed_reading sign.Var = word_reading (codes "var") sign.Var (letters_word 118 (codes "ar") refl refl refl) refl
fixed_reading sign.Void = word_reading (codes "void") sign.Void (letters_word 118 (codes "oid") refl refl refl) refl
fixed_reading sign.While = word_reading (codes "while") sign.While (letters_word 119 (codes "hile") refl refl refl) refl
fixed_reading sign.With = word_reading (codes "with") sign.With (letters_word 119 (codes "ith") refl refl refl) refl
fixed_reading sign.Null = word_reading (codes "null") sign.Null (letters_word 110 (codes "ull") refl refl refl) refl
fixed_reading sign.True = word_reading (codes "true") sign.True (letters_word 116 (codes "rue") refl refl refl) refl
fixed_reading sign.False = word_reading (codes "false") sign.False (letters_word 102 (codes "alse") refl refl refl) refl
fixed_reading sign.OpenBrace = mark_reading (codes "{") sign.OpenBrace (mark_word (codes "{") (λ rest. refl) (λ rest. refl) refl) refl
fixed_reading sign.CloseBrace = mark_reading (codes "}") sign.CloseBrace (mark_word (codes "}") (λ rest. refl) (λ rest. refl) refl) refl
fixed_reading sign.Open = mark_reading (codes "(") sign.Open (mark_word (codes "(") (λ rest. refl) (λ rest. refl) refl) refl
fixed_reading sign.Close = mark_reading (codes ")") sign.Close (mark_word (codes ")") (λ rest. refl) (λ rest. refl) refl) refl
fixed_reading sign.OpenSquare = mark_reading (codes "[") sign.OpenSquare (mark_word (codes "[") (λ rest. refl) (λ rest. refl) refl) refl
fixed_reading sign.CloseSquare = mark_reading (codes "]") sign.CloseSquare (mark_word (codes "]") (λ rest. refl) (λ rest. refl) refl) refl
fixed_reading sign.Point = mark_reading (codes ".") sign.Point (mark_word (codes ".") (λ rest. refl) (λ rest. refl) refl) refl
fixed_reading sign.Semicolon = mark_reading (codes ";") sign.Semicolon (mark_word (codes ";") (λ rest. refl) (λ rest. refl) refl) refl
fixed_reading sign.Comma = mark_reading (codes ",") sign.Comma (mark_word (codes ",") (λ rest. refl) (λ rest. refl) refl) refl
fixed_reading sign.Less = mark_reading (codes "<") sign.Less (mark_word (codes "<") (λ rest. refl) (λ rest. refl) refl) refl
fixed_reading sign.Greater = mark_reading (codes ">") sign.Greater (mark_word (codes ">") (λ rest. refl) (λ rest. refl) refl) refl
fixed_reading sign.LessEqual = mark_reading (codes "<=") sign.LessEqual (mark_word (codes "<=") (λ rest. refl) (λ rest. refl) refl) refl
fixed_reading sign.GreaterEqual = mark_reading (codes ">=") sign.GreaterEqual (mark_word (codes ">=") (λ rest. refl) (λ rest. refl) refl) refl
fixed_reading sign.Equal = mark_reading (codes "==") sign.Equal (mark_word (codes "==") (λ rest. refl) (λ rest. refl) refl) refl
fixed_reading sign.NotEqual = mark_reading (codes "!=") sign.NotEqual (mark_word (codes "!=") (λ rest. refl) (λ rest. refl) refl) refl
fixed_reading sign.Same = mark_reading (codes "===") sign.Same (mark_word (codes "===") (λ rest. refl) (λ rest. refl) refl) refl
fixed_reading sign.NotSame = mark_reading (codes "!==") sign.NotSame (mark_word (codes "!==") (λ rest. refl) (λ rest. refl) refl) refl
fixed_reading sign.Plus = mark_reading (codes "+") sign.Plus (mark_word (codes "+") (λ rest. refl) (λ rest. refl) refl) refl
fixed_reading sign.Minus = mark_reading (codes "-") sign.Minus (mark_word (codes "-") (λ rest. refl) (λ rest. refl) refl) refl
fixed_reading sign.Star = mark_reading (codes "*") sign.Star (mark_word (codes "*") (λ rest. refl) (λ rest. refl) refl) refl
fixed_reading sign.Slash = mark_reading (codes "/") sign.Slash (mark_word (codes "/") (λ rest. refl) (λ rest. refl) refl) refl
fixed_reading sign.Percent = mark_reading (codes "%") sign.Percent (mark_word (codes "%") (λ rest. refl) (λ rest. refl) refl) refl
fixed_reading sign.PlusPlus = mark_reading (codes "++") sign.PlusPlus (mark_word (codes "++") (λ rest. refl) (λ rest. refl) refl) refl
fixed_reading sign.MinusMinus = mark_reading (codes "--") sign.MinusMinus (mark_word (codes "--") (λ rest. refl) (λ rest. refl) refl) refl
fixed_reading sign.ShiftLeft = mark_reading (codes "<<") sign.ShiftLeft (mark_word (codes "<<") (λ rest. refl) (λ rest. refl) refl) refl
fixed_reading sign.ShiftRight = mark_reading (codes ">>") sign.ShiftRight (mark_word (codes ">>") (λ rest. refl) (λ rest. refl) refl) refl
fixed_reading sign.ShiftRightZero = mark_reading (codes ">>>") sign.ShiftRightZero (mark_word (codes ">>>") (λ rest. refl) (λ rest. refl) refl) refl
fixed_reading sign.BitAnd = mark_reading (codes "&") sign.BitAnd (mark_word (codes "&") (λ rest. refl) (λ rest. refl) refl) refl
fixed_reading sign.BitOr = mark_reading (codes "|") sign.BitOr (mark_word (codes "|") (λ rest. refl) (λ rest. refl) refl) refl
fixed_reading sign.BitXor = mark_reading (codes "^") sign.BitXor (mark_word (codes "^") (λ rest. refl) (λ rest. refl) refl) refl
fixed_reading sign.Not = mark_reading (codes "!") sign.Not (mark_word (codes "!") (λ rest. refl) (λ rest. refl) refl) refl
fixed_reading sign.BitNot = mark_reading (codes "~") sign.BitNot (mark_word (codes "~") (λ rest. refl) (λ rest. refl) refl) refl
fixed_reading sign.AndAnd = mark_reading (codes "&&") sign.AndAnd (mark_word (codes "&&") (λ rest. refl) (λ rest. refl) refl) refl
fixed_reading sign.OrOr = mark_reading (codes "||") sign.OrOr (mark_word (codes "||") (λ rest. refl) (λ rest. refl) refl) refl
fixed_reading sign.Question = mark_reading (codes "?") sign.Question (mark_word (codes "?") (λ rest. refl) (λ rest. refl) refl) refl
fixed_reading sign.Colon = mark_reading (codes ":") sign.Colon (mark_word (codes ":") (λ rest. refl) (λ rest. refl) refl) refl
fixed_reading sign.Assign = mark_reading (codes "=") sign.Assign (mark_word (codes "=") (λ rest. refl) (λ rest. refl) refl) refl
fixed_reading sign.PlusAssign = mark_reading (codes "+=") sign.PlusAssign (mark_word (codes "+=") (λ rest. refl) (λ rest. refl) refl) refl
fixed_reading sign.MinusAssign = mark_reading (codes "-=") sign.MinusAssign (mark_word (codes "-=") (λ rest. refl) (λ rest. refl) refl) refl
fixed_reading sign.StarAssign = mark_reading (codes "*=") sign.StarAssign (mark_word (codes "*=") (λ rest. refl) (λ rest. refl) refl) refl
fixed_reading sign.SlashAssign = mark_reading (codes "/=") sign.SlashAssign (mark_word (codes "/=") (λ rest. refl) (λ rest. refl) refl) refl
fixed_reading sign.PercentAssign = mark_reading (codes "%=") sign.PercentAssign (mark_word (codes "%=") (λ rest. refl) (λ rest. refl) refl) refl
fixed_reading sign.ShiftLeftAssign = mark_reading (codes "<<=") sign.ShiftLeftAssign (mark_word (codes "<<=") (λ rest. refl) (λ rest. refl) refl) refl
fixed_reading sign.ShiftRightAssign = mark_reading (codes ">>=") sign.ShiftRightAssign (mark_word (codes ">>=") (λ rest. refl) (λ rest. refl) refl) refl
fixed_reading sign.ShiftRightZeroAssign = mark_reading (codes ">>>=") sign.ShiftRightZeroAssign (mark_word (codes ">>>=") (λ rest. refl) (λ rest. refl) refl) refl
fixed_reading sign.BitAndAssign = mark_reading (codes "&=") sign.BitAndAssign (mark_word (codes "&=") (λ rest. refl) (λ rest. refl) refl) refl
fixed_reading sign.BitOrAssign = mark_reading (codes "|=") sign.BitOrAssign (mark_word (codes "|=") (λ rest. refl) (λ rest. refl) refl) refl
fixed_reading sign.BitXorAssign = mark_reading (codes "^=") sign.BitXorAssign (mark_word (codes "^=") (λ rest. refl) (λ rest. refl) refl) refl
fixed_reading _ = tt

pub reading : {w : List ℕ} {s : Sign} {text : List ℕ} → TokenIs w s text → IsProper s text → Reading w s text
reading (as_name {text}) h = name_reading text h
reading (as_number {text}) h = number_reading text h
reading (as_string {text}) h = record { k = kind.Str; word = string_word text h; sign_is = refl; text_is = λ pre post. string_text text pre post h }
reading (as_fixed {s} e) h = subst (FixedReading s) e (fixed_reading s)
