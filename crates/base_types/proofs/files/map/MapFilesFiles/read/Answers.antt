use Rattle.base_types.proofs.files.map.MapFilesFiles.read.Goals as goal

pub returns-in_ok-failed-in-None-clause-answer : goal.returns-in_ok-failed-in-None-clause-answer
returns-in_ok-failed-in-None-clause-answer c =
    rw (← c.self.view_is) (rw (c.deref.ensures.value, c.deref-2.ensures.value, c.as_bytes.ensures.value, c.saturating_add-self-inside.ensures) at
    c.in-None.ensures)
