use Rattle.html_page.proofs.Escapes.{character-data}
use Rattle.html_page.proofs.laws.escaped_text_has_no_markup.Goals as goal

pub returns : goal.returns
returns c = character-data
