use Rattle.cec_words.proofs.Gathering.{HasNoMeaning-ends}
use Rattle.cec_words.proofs.reading.Reader.after.Goals as goal

pub returns-in_err-given-in-Ends : goal.returns-in_err-given-in-Ends
returns-in_err-given-in-Ends c =
    rw (c.from_residual.ensures, c.in-Ends.is) (HasNoMeaning-ends c.args.self.given c.in-Ends.part c.in_err-given-in-Ends.ensures)
