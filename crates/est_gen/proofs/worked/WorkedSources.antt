-- Written by hand, with values of the reference implementation: worked events and sources, as the reference implementation gives them.
use Rattle.std.proofs.Common.{◌≡◌, true, false, [], ◌∷◌, codes, refl}
use Rattle.std.specs.Fmt.{digits}
use Rattle.base_types.specs.Draws.{first_state, state_after}
use Rattle.est_gen.specs.Events.{event_from}
use Rattle.est_gen.specs.Sources.{source_text}

an_event : event_from 8 (first_state 11) ≡ false ∷ true ∷ false ∷ true ∷ true ∷ false ∷ false ∷ false ∷ []
an_event = refl

its_last_state : state_after 8 (first_state 11) ≡ 1000760707
its_last_state = refl

one_branch : source_text 32 1 ≡ codes "module GEN:\ninput I0, I1, I2, I3, I4, I5, I6, I7;\noutput O0, O1, O2, O3, O4, O5, O6, O7;\nsignal S0 in\n[\nloop await I3; emit S0; present I7 then emit O3 end present end loop\n]\nend signal\nend module\n"
unfolding digits
one_branch = refl

four_shapes : source_text 32 4 ≡ codes "module GEN:\ninput I0, I1, I2, I3, I4, I5, I6, I7;\noutput O0, O1, O2, O3, O4, O5, O6, O7;\nsignal S0, S1, S2, S3 in\n[\nloop await I3; emit S0; present I7 then emit O3 end present end loop\n||\nevery I3 do emit S1; emit O2 end every\n||\nloop abort sustain S2 when I1; await 2 S1; emit O4 end loop\n||\nsuspend loop present S2 then emit S3 end present; pause; emit O2; pause end loop when I4\n]\nend signal\nend module\n"
unfolding digits
four_shapes = refl

four_other_branches : source_text 6 4 ≡ codes "module GEN:\ninput I0, I1, I2, I3, I4, I5, I6, I7;\noutput O0, O1, O2, O3, O4, O5, O6, O7;\nsignal S0, S1, S2, S3 in\n[\nsuspend loop present I6 then emit S0 end present; pause; emit O6; pause end loop when I3\n||\nevery I2 do emit S1; emit O1 end every\n||\nloop await S1; emit S2; present I1 then emit O7 end present end loop\n||\nevery I5 do emit S3; emit O7 end every\n]\nend signal\nend module\n"
unfolding digits
four_other_branches = refl
