-- Written by hand, with values of the reference implementation: worked traces, with the groups that the reference implementation reads.
use Rattle.std.proofs.Common.{◌≡◌, true, false, [], ◌∷◌, codes, refl}
use Rattle.run_trace_io.specs.declared.faults.TraceFault.TheVariants as faults
use Rattle.run_trace_io.specs.Traces.{End, Reset, Instant, Refused, group_from}

group_0 : group_from (codes "A" ∷ []) 1 (codes "A;;A A;") 0 ≡ Instant (true ∷ []) 2
group_0 = refl

group_1 : group_from (codes "A" ∷ []) 2 (codes "A;;A A;") 2 ≡ Instant (false ∷ []) 3
group_1 = refl

group_2 : group_from (codes "A" ∷ []) 3 (codes "A;;A A;") 3 ≡ Refused (faults.Repeated 3 (codes "A"))
group_2 = refl

group_3 : group_from (codes "A" ∷ codes "B" ∷ []) 1 (codes "A, B;") 0 ≡ Refused (faults.UnknownInput 1 (codes "A,"))
group_3 = refl

group_4 : group_from (codes "A" ∷ []) 1 ((1 ∷ 59 ∷ [])) 0 ≡ Refused (faults.BadByte 0)
group_4 = refl

group_5 : group_from (codes "A" ∷ []) 1 (codes "% all % of it") 0 ≡ End
group_5 = refl

group_6 : group_from (codes "A" ∷ codes "B" ∷ []) 1 (codes "A; B") 0 ≡ Instant (true ∷ false ∷ []) 2
group_6 = refl

group_7 : group_from (codes "A" ∷ codes "B" ∷ []) 2 (codes "A; B") 2 ≡ Refused (faults.OpenInstant 2)
group_7 = refl

group_8 : group_from (codes "A" ∷ []) 1 (codes "; !reset A;") 0 ≡ Instant (false ∷ []) 1
group_8 = refl

group_9 : group_from (codes "A" ∷ []) 2 (codes "; !reset A;") 1 ≡ Refused (faults.BadReset 2)
group_9 = refl

group_10 : group_from (codes "A" ∷ []) 1 (codes "!reset; !reset;") 0 ≡ Reset 7
group_10 = refl

group_11 : group_from (codes "A" ∷ []) 1 (codes "!reset; !reset;") 7 ≡ Reset 15
group_11 = refl

group_12 : group_from (codes "A" ∷ []) 1 (codes "!reset; !reset;") 15 ≡ End
group_12 = refl

group_13 : group_from (codes "!reset" ∷ []) 1 (codes "!reset;") 0 ≡ Instant (true ∷ []) 7
group_13 = refl

group_14 : group_from (codes "!reset" ∷ []) 2 (codes "!reset;") 7 ≡ End
group_14 = refl

group_15 : group_from (codes "A" ∷ []) 1 (codes "A !reset;") 0 ≡ Refused (faults.BadReset 1)
group_15 = refl

group_16 : group_from (codes "A" ∷ []) 1 (codes "!reset !reset;") 0 ≡ Refused (faults.BadReset 1)
group_16 = refl

group_17 : group_from (codes "A" ∷ []) 1 ((90 ∷ 1 ∷ 59 ∷ [])) 0 ≡ Refused (faults.UnknownInput 1 (codes "Z"))
group_17 = refl

group_18 : group_from (codes "A" ∷ codes "B" ∷ []) 1 ((66 ∷ 32 ∷ 65 ∷ 37 ∷ 120 ∷ 10 ∷ 59 ∷ 32 ∷ 65 ∷ 9 ∷ 13 ∷ 10 ∷ 59 ∷ [])) 0 ≡ Instant (true ∷ true ∷ []) 7
group_18 = refl

group_19 : group_from (codes "A" ∷ codes "B" ∷ []) 2 ((66 ∷ 32 ∷ 65 ∷ 37 ∷ 120 ∷ 10 ∷ 59 ∷ 32 ∷ 65 ∷ 9 ∷ 13 ∷ 10 ∷ 59 ∷ [])) 7 ≡ Instant (true ∷ false ∷ []) 13
group_19 = refl

group_20 : group_from (codes "A" ∷ codes "B" ∷ []) 3 ((66 ∷ 32 ∷ 65 ∷ 37 ∷ 120 ∷ 10 ∷ 59 ∷ 32 ∷ 65 ∷ 9 ∷ 13 ∷ 10 ∷ 59 ∷ [])) 13 ≡ End
group_20 = refl

group_21 : group_from (codes "A" ∷ []) 1 (codes "!reset") 0 ≡ Refused (faults.OpenInstant 1)
group_21 = refl

group_22 : group_from ([]) 1 (codes " ") 0 ≡ End
group_22 = refl

group_23 : group_from (codes "A" ∷ []) 1 (codes "A%;") 0 ≡ Refused (faults.OpenInstant 1)
group_23 = refl

group_24 : group_from (codes "A" ∷ codes "!reset" ∷ codes "B" ∷ []) 1 (codes "!reset B;") 0 ≡ Instant (false ∷ true ∷ true ∷ []) 9
group_24 = refl

group_25 : group_from (codes "A" ∷ codes "!reset" ∷ codes "B" ∷ []) 2 (codes "!reset B;") 9 ≡ End
group_25 = refl

group_26 : group_from (codes "A" ∷ codes "B" ∷ []) 1 ((65 ∷ 32 ∷ 66 ∷ 59 ∷ 65 ∷ 127 ∷ 59 ∷ [])) 0 ≡ Instant (true ∷ true ∷ []) 4
group_26 = refl

group_27 : group_from (codes "A" ∷ codes "B" ∷ []) 2 ((65 ∷ 32 ∷ 66 ∷ 59 ∷ 65 ∷ 127 ∷ 59 ∷ [])) 4 ≡ Refused (faults.BadByte 5)
group_27 = refl

group_28 : group_from ([]) 1 ((59 ∷ 37 ∷ 10 ∷ 59 ∷ [])) 0 ≡ Instant ([]) 1
group_28 = refl

group_29 : group_from ([]) 2 ((59 ∷ 37 ∷ 10 ∷ 59 ∷ [])) 1 ≡ Instant ([]) 4
group_29 = refl

group_30 : group_from ([]) 3 ((59 ∷ 37 ∷ 10 ∷ 59 ∷ [])) 4 ≡ End
group_30 = refl

-- ---- tokens: what a name may have in it, and what stands between names

-- the least and the greatest byte of a name
group_31 : group_from (codes "!" ∷ codes "~" ∷ []) 1 (codes "~ ! ;") 0 ≡ Instant (true ∷ true ∷ []) 5
group_31 = refl

-- a form feed, and a carriage return, between names
group_32 : group_from (codes "A" ∷ codes "B" ∷ []) 1 (66 ∷ 12 ∷ 65 ∷ 13 ∷ 59 ∷ []) 0 ≡ Instant (true ∷ true ∷ []) 5
group_32 = refl

-- no vertical tab
group_33 : group_from (codes "A" ∷ []) 1 (65 ∷ 11 ∷ 59 ∷ []) 0 ≡ Refused (faults.BadByte 1)
group_33 = refl

-- a carriage return ends no comment
group_34 : group_from (codes "A" ∷ []) 1 (37 ∷ 120 ∷ 13 ∷ 59 ∷ 10 ∷ 65 ∷ 59 ∷ []) 0 ≡ Instant (true ∷ []) 7
group_34 = refl

-- a comment ends a name, and has any byte in it
group_35 : group_from (codes "A" ∷ codes "B" ∷ []) 1 (65 ∷ 37 ∷ 1 ∷ 255 ∷ 37 ∷ 10 ∷ 66 ∷ 59 ∷ []) 0 ≡ Instant (true ∷ true ∷ []) 8
group_35 = refl

-- a name is as long as it can be
group_36 : group_from (codes "A" ∷ codes "B" ∷ []) 1 (codes "AB;") 0 ≡ Refused (faults.UnknownInput 1 (codes "AB"))
group_36 = refl

-- the first fault in the order of the text: a name a second time, before a byte that has no place
group_37 : group_from (codes "A" ∷ []) 4 (65 ∷ 32 ∷ 65 ∷ 32 ∷ 1 ∷ []) 0 ≡ Refused (faults.Repeated 4 (codes "A"))
group_37 = refl

-- a reset among names that no input has
group_38 : group_from (codes "A" ∷ []) 3 (codes "!reset X;") 0 ≡ Refused (faults.BadReset 3)
group_38 = refl

group_39 : group_from (codes "A" ∷ []) 3 (codes "X !reset;") 0 ≡ Refused (faults.UnknownInput 3 (codes "X"))
group_39 = refl
