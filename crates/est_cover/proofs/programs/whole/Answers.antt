use Rattle.est_cover.proofs.programs.whole.Goals as goal

pub returns : goal.returns
returns c = λ flat first names head body i. record {
  name = head.name i;
  signals = head.signals i;
  inputs = head.inputs i;
  both = head.both i;
  outputs = head.outputs i;
  relations = head.relations i;
  body = body i;
}
