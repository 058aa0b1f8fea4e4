use Rattle.cec_compile.proofs.source_texts.text_of.Goals as goal

pub returns-clause-written : goal.returns-clause-written
returns-clause-written g c = record {
  made = c.in_ok-made.made;
  is_made = c.in_ok-made.ensures.made;
  written = record { spelled = c.in_ok-text.ensures.text; means = c.in_ok-text.ensures.means };
}
