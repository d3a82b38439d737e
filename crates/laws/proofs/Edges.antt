-- Law 6: the starred lines of docs/FORMAT.md 11, with the elements that they name, as one statement over their list: each is computed.
use mathlib.Core.Path.{refl}
use Rattle.protocol.specs.Answers.{of_decoded, of_element}
use Rattle.protocol.specs.Elements.{list_in, element_by, found_by, element_at, element_in, element_of}
use Rattle.protocol.specs.Kinds.{value_element}
use Rattle.protocol.proofs.Open.{the_decoding}
use Rattle.laws.specs.Statements.{Edges, the_decoder, the_element_call}

pub edges : Edges the_decoder the_element_call
unfolding the_decoding of_decoded of_element list_in element_by found_by element_at element_in element_of value_element
edges = (
  refl,
  tt,
  (
    refl,
    tt,
    (
      refl,
      tt,
      (
        refl,
        tt,
        (
          refl,
          tt,
          (
            refl,
            (refl, tt),
            (
              refl,
              tt,
              (
                refl,
                (refl, (refl, tt)),
                (
                  refl,
                  tt,
                  (
                    refl,
                    tt,
                    (
                      refl,
                      tt,
                      (
                        refl,
                        tt,
                        (
                          refl,
                          tt,
                          (
                            refl,
                            tt,
                            (
                              refl,
                              (refl, tt),
                              (
                                refl,
                                tt,
                                (refl, tt, tt),
                              ),
                            ),
                          ),
                        ),
                      ),
                    ),
                  ),
                ),
              ),
            ),
          ),
        ),
      ),
    ),
  ),
)
