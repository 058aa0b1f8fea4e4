-- Written by hand, with values of the reference implementation: worked listings. The texts are those of the reference implementation.
use Rattle.std.proofs.Common.{◌≡◌, ℕ, ◌+◌, [], ◌∷◌, codes, refl}
use Rattle.std.specs.List.{concat}
use Rattle.std.specs.Fmt.{digits}
use Rattle.base_types.specs.declared.place.Span.{Span}
use Rattle.est_kernel.specs.Plain.{Program}
use Rattle.est_kernel.specs.Terms.{Sig, Nothing, Pause, Emit, Present, Suspend, Seq, Loop, Par, Local}
use Rattle.grc_graph.specs.Wires.{listed, codes_below}
use Rattle.grc_list.specs.Listings.{program_listing}

abbrev place : ℕ → Span
place n = record { start = n; end = n + 1 }

-- emit O; pause; emit O
abbrev one_pause : Program
one_pause = record {
  name = codes "T";
  signals = codes "O" ∷ [];
  inputs = 0;
  both = 0;
  outputs = 1;
  relations = [];
  body = (Seq (Emit 0) (Seq Pause (Emit 0)));
}

one_pause_listed : program_listing one_pause ≡ concat (
    codes "grc 1\n" ∷ codes "excl .\n" ∷ codes "excl .1\n" ∷ codes "leaf .1.0\n" ∷ codes "w0 out O\n" ∷ codes "w1 go . r\n" ∷
    codes "w2 end . r 0\n" ∷ codes "w3 go . s .\n" ∷ codes "w4 end . s . 1\n" ∷ codes "w5 go .0 s .\n" ∷ codes "w6 end .0 s . 0\n" ∷
    codes "w7 go .1 r\n" ∷ codes "w8 end .1 r 0\n" ∷ codes "w9 go .1 s .\n" ∷ codes "w10 end .1 s . 1\n" ∷ codes "w11 go .1.0 r\n" ∷
    codes "w12 end .1.0 r 0\n" ∷ codes "w13 go .1.0 s .\n" ∷ codes "w14 end .1.0 s . 1\n" ∷ codes "w15 go .1.1 s .1.1\n" ∷
    codes "w16 end .1.1 s .1.1 0\n" ∷ [])
unfolding digits listed codes_below
one_pause_listed = refl

-- A local signal that is there twice in one instant, as its scope is left and entered anew.
abbrev reincarnation : Program
reincarnation = record {
  name = codes "T";
  signals = codes "O" ∷ codes "S" ∷ [];
  inputs = 0;
  both = 0;
  outputs = 1;
  relations = [];
  body = (Loop (place 20) (Local 1 (Seq (Present (Sig 1) (Emit 0) Nothing) (Seq Pause (Emit 1)))));
}

reincarnation_listed : program_listing reincarnation ≡ concat (
    codes "grc 1\n" ∷ codes "pass .\n" ∷ codes "pass .0\n" ∷ codes "excl .0.0\n" ∷ codes "excl .0.0.1\n" ∷ codes "leaf .0.0.1.0\n" ∷
    codes "w0 out O\n" ∷ codes "w1 go . r\n" ∷ codes "w2 end . r 1\n" ∷ codes "w3 go . s .\n" ∷ codes "w4 end . s . 1\n" ∷ codes "w5 go .0 r\n" ∷
    codes "w6 st .0 r S\n" ∷ codes "w7 end .0 r 0\n" ∷ codes "w8 go .0 s .\n" ∷ codes "w9 st .0 s . S\n" ∷ codes "w10 end .0 s . 1\n" ∷
    codes "w11 go .0 s .0\n" ∷ codes "w12 st .0 s .0 S\n" ∷ codes "w13 end .0 s .0 1\n" ∷ codes "w14 go .0.0 r\n" ∷ codes "w15 end .0.0 r 0\n" ∷
    codes "w16 go .0.0 s .\n" ∷ codes "w17 end .0.0 s . 1\n" ∷ codes "w18 go .0.0 s .0\n" ∷ codes "w19 end .0.0 s .0 1\n" ∷
    codes "w20 go .0.0.0 s .\n" ∷ codes "w21 end .0.0.0 s . 0\n" ∷ codes "w22 go .0.0.0 s .0\n" ∷ codes "w23 end .0.0.0 s .0 0\n" ∷
    codes "w24 go .0.0.0.0 s .\n" ∷ codes "w25 end .0.0.0.0 s . 0\n" ∷ codes "w26 go .0.0.0.0 s .0\n" ∷ codes "w27 end .0.0.0.0 s .0 0\n" ∷
    codes "w28 go .0.0.0.1 s .\n" ∷ codes "w29 end .0.0.0.1 s . 0\n" ∷ codes "w30 go .0.0.0.1 s .0\n" ∷ codes "w31 end .0.0.0.1 s .0 0\n" ∷
    codes "w32 go .0.0.1 r\n" ∷ codes "w33 end .0.0.1 r 0\n" ∷ codes "w34 go .0.0.1 s .\n" ∷ codes "w35 end .0.0.1 s . 1\n" ∷
    codes "w36 go .0.0.1 s .0\n" ∷ codes "w37 end .0.0.1 s .0 1\n" ∷ codes "w38 go .0.0.1.0 r\n" ∷ codes "w39 end .0.0.1.0 r 0\n" ∷
    codes "w40 go .0.0.1.0 s .\n" ∷ codes "w41 end .0.0.1.0 s . 1\n" ∷ codes "w42 go .0.0.1.0 s .0\n" ∷ codes "w43 end .0.0.1.0 s .0 1\n" ∷
    codes "w44 go .0.0.1.1 s .0.0.1.1\n" ∷ codes "w45 end .0.0.1.1 s .0.0.1.1 0\n" ∷ [])
unfolding digits listed codes_below
reincarnation_listed = refl

-- A branch that is over in the instant in which it starts, or in a later one, is marked.
abbrev a_marked_branch : Program
a_marked_branch = record {
  name = codes "TWO";
  signals = codes "A" ∷ codes "B" ∷ codes "O" ∷ [];
  inputs = 1;
  both = 1;
  outputs = 1;
  relations = [];
  body = (Seq (Suspend (Sig 1) (Par (Loop (place 56) Pause) (Present (Sig 0) (Seq (Emit 1) Pause) Nothing))) (Emit 2));
}

a_marked_branch_listed : program_listing a_marked_branch ≡ concat (
    codes "grc 1\n" ∷ codes "excl .\n" ∷ codes "pass .0\n" ∷ codes "par .0.0 01\n" ∷ codes "pass .0.0.0\n" ∷ codes "leaf .0.0.0.0\n" ∷
    codes "excl .0.0.1\n" ∷ codes "excl .0.0.1.0\n" ∷ codes "leaf .0.0.1.0.1\n" ∷ codes "w0 out B\n" ∷ codes "w1 out O\n" ∷ codes "w2 go . r\n" ∷
    codes "w3 end . r 1\n" ∷ codes "w4 go . s .\n" ∷ codes "w5 end . s . 1\n" ∷ codes "w6 go .0 r\n" ∷ codes "w7 end .0 r 1\n" ∷
    codes "w8 go .0 s .\n" ∷ codes "w9 end .0 s . 1\n" ∷ codes "w10 go .0.0 r\n" ∷ codes "w11 end .0.0 r 1\n" ∷ codes "w12 go .0.0 s .\n" ∷
    codes "w13 end .0.0 s . 1\n" ∷ codes "w14 go .0.0.0 r\n" ∷ codes "w15 end .0.0.0 r 1\n" ∷ codes "w16 go .0.0.0 s .\n" ∷
    codes "w17 end .0.0.0 s . 1\n" ∷ codes "w18 go .0.0.0.0 r\n" ∷ codes "w19 end .0.0.0.0 r 0\n" ∷ codes "w20 go .0.0.0.0 s .\n" ∷
    codes "w21 end .0.0.0.0 s . 1\n" ∷ codes "w22 go .0.0.0.0 s .0.0.0.0\n" ∷ codes "w23 end .0.0.0.0 s .0.0.0.0 1\n" ∷ codes "w24 go .0.0.1 r\n" ∷
    codes "w25 end .0.0.1 r 0\n" ∷ codes "w26 go .0.0.1 s .\n" ∷ codes "w27 end .0.0.1 s . 0\n" ∷ codes "w28 end .0.0.1 s . 1\n" ∷
    codes "w29 go .0.0.1.0 r\n" ∷ codes "w30 end .0.0.1.0 r 0\n" ∷ codes "w31 go .0.0.1.0 s .\n" ∷ codes "w32 end .0.0.1.0 s . 1\n" ∷
    codes "w33 go .0.0.1.0.0 s .\n" ∷ codes "w34 end .0.0.1.0.0 s . 0\n" ∷ codes "w35 go .0.0.1.0.1 r\n" ∷ codes "w36 end .0.0.1.0.1 r 0\n" ∷
    codes "w37 go .0.0.1.0.1 s .\n" ∷ codes "w38 end .0.0.1.0.1 s . 1\n" ∷ codes "w39 go .0.0.1.1 s .\n" ∷ codes "w40 end .0.0.1.1 s . 0\n" ∷ [])
unfolding digits listed codes_below
a_marked_branch_listed = refl
