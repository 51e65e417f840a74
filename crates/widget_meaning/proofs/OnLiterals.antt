use Rattle.std.specs.Prelude.{⊤}
use Rattle.std.specs.Char as char
use Rattle.std.specs.Char.Utf16 as utf16
use Rattle.std.specs.Fmt as fmt
use Rattle.std.specs.Str as str
use Rattle.code_units.specs.Permitted as permitted
use Rattle.code_units.specs.Utf8 as utf8
use Rattle.code_units.specs.Whole as whole
use Rattle.serde_json.proofs.OnLiterals.{serde_json_on_literals}
use Rattle.plain_tree.specs.Names as names
use Rattle.plain_tree.specs.Tags as tags
use Rattle.query_grammar.specs.Machine as query
use Rattle.style_text.specs.Form as form
use Rattle.style_text.specs.Machine as machine
use Rattle.style_text.specs.Styles as styles
use Rattle.widget_meaning.specs.Scopes as scopes

-- what an answer unfolds to compute a widget on a literal
unfoldable pub widgets_on_literals : ⊤
unfolding scopes.stmt_vars whole.number_in whole.trimmed fmt.digits permitted.is_banned permitted.has_edge_underscore utf8.units_of utf8.utf8_of str.chars char.encode_utf8 utf16.utf16_chars names.is_void tags.is_phrase tags.is_block tags.is_list tags.is_form tags.is_table styles.properties styles.is_listed styles.is_used styles.is_value styles.print_style machine.fits form.style_form query.keywords query.keyword_of query.fits serde_json_on_literals
widgets_on_literals = tt
