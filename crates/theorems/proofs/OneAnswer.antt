-- ONE ANSWER: for each public call, two answers that both keep its promise on the same arguments are equal.
-- A lemma for each call, since each has a type of its own by the source. `Learnt` is what the prover reads off the
-- `ensures` of the source: no promise is copied here. Assumes nothing.
use Prim.Native.Nat.{ℕ}
use mathlib.Core.Path.{◌≡◌, sym, ◌∙◌}
use mathlib.Core.List.{List}
use seplogic.Ra.Ura.{Ura}
use base.Logic.{SProp, ent, sep, fst∗, snd∗}
use prog.Memory.{Memory}
use prog.Routine.{Routine}
use types.Logic.{Logic}
use contract.Lifetimes.{Lfts}
use contract.Monad.{Fun, fact, fact_i, fact_use}
use denote.Triple.Clauses.{Ended, Clauses, AtExit}
use denote.Triple.Entry.{Args, Res}
use borrow.Fn.Kinds.{ParamKind, ResultKind, Out, Dens, res_t, ended_of}
use Rattle.foundation.proofs.refusal.Fault.at.Kinds as fault-at-kinds
use Rattle.foundation.proofs.refusal.Fault.at.Reads as fault-at-reads
use Rattle.foundation.proofs.big_endian.Kinds as big-endian-kinds
use Rattle.foundation.proofs.big_endian.Reads as big-endian-reads
use Rattle.text.proofs.put.Kinds as put-kinds
use Rattle.text.proofs.put.Reads as put_reads
use Rattle.text.proofs.has_room.Kinds as has-room-kinds
use Rattle.text.proofs.has_room.Reads as has-room-reads
use Rattle.text.proofs.put_bytes.Kinds as put-bytes-kinds
use Rattle.text.proofs.put_bytes.Reads as put-bytes-reads
use Rattle.numerals.proofs.put_decimal.Kinds as put-decimal-kinds
use Rattle.numerals.proofs.put_decimal.Reads as put-decimal-reads
use Rattle.numerals.proofs.put_hex.Kinds as put-hex-kinds
use Rattle.numerals.proofs.put_hex.Reads as put-hex-reads
use Rattle.numerals.proofs.put_signed.Kinds as put-signed-kinds
use Rattle.numerals.proofs.put_signed.Reads as put-signed-reads
use Rattle.pieces.proofs.pieces.Kinds as pieces-kinds
use Rattle.pieces.proofs.pieces.Reads as pieces-reads
use Rattle.pieces.proofs.piece.Kinds as piece-kinds
use Rattle.pieces.proofs.piece.Reads as piece-reads
use Rattle.line.proofs.decimal_number.Kinds as decimal-number-kinds
use Rattle.line.proofs.decimal_number.Reads as decimal-number-reads
use Rattle.line.proofs.hex_number.Kinds as hex-number-kinds
use Rattle.line.proofs.hex_number.Reads as hex-number-reads
use Rattle.line.proofs.unhex.Kinds as unhex-kinds
use Rattle.line.proofs.unhex.Reads as unhex-reads
use Rattle.words.proofs.part.Kinds as part-kinds
use Rattle.words.proofs.part.Reads as part-reads
use Rattle.words.proofs.line_from.Kinds as line-from-kinds
use Rattle.words.proofs.line_from.Reads as line-from-reads
use Rattle.words.proofs.unhex_word.Kinds as unhex-word-kinds
use Rattle.words.proofs.unhex_word.Reads as unhex-word-reads
use Rattle.answers.proofs.of_expanded.Kinds as of-expanded-kinds
use Rattle.answers.proofs.of_expanded.Reads as of-expanded-reads
use Rattle.answers.proofs.of_date.Kinds as of-date-kinds
use Rattle.answers.proofs.of_date.Reads as of-date-reads
use Rattle.answers.proofs.of_count.Kinds as of-count-kinds
use Rattle.answers.proofs.of_count.Reads as of-count-reads
use Rattle.answers.proofs.of_found.Kinds as of-found-kinds
use Rattle.answers.proofs.of_found.Reads as of-found-reads
use Rattle.answers.proofs.of_stamp.Kinds as of-stamp-kinds
use Rattle.answers.proofs.of_stamp.Reads as of-stamp-reads
use Rattle.answers.proofs.of_devc.Kinds as of-devc-kinds
use Rattle.answers.proofs.of_devc.Reads as of-devc-reads
use Rattle.answers.proofs.of_number.Kinds as of-number-kinds
use Rattle.answers.proofs.of_number.Reads as of-number-reads
use Rattle.answers.proofs.of_decoded.Kinds as of-decoded-kinds
use Rattle.answers.proofs.of_decoded.Reads as of-decoded-reads
use Rattle.value_answers.proofs.of_average.Kinds as of-average-kinds
use Rattle.value_answers.proofs.of_average.Reads as of-average-reads
use Rattle.answers.proofs.of_header.Kinds as of-header-kinds
use Rattle.answers.proofs.of_header.Reads as of-header-reads
use Rattle.answers.proofs.of_last_item.Kinds as of-last-item-kinds
use Rattle.answers.proofs.of_last_item.Reads as of-last-item-reads
use Rattle.answers.proofs.of_headed.Kinds as of-headed-kinds
use Rattle.answers.proofs.of_headed.Reads as of-headed-reads
use Rattle.answers.proofs.of_part.Kinds as of-part-kinds
use Rattle.answers.proofs.of_part.Reads as of-part-reads
use Rattle.answers.proofs.of_tagged.Kinds as of-tagged-kinds
use Rattle.answers.proofs.of_tagged.Reads as of-tagged-reads
use Rattle.value_answers.proofs.of_element.Kinds as of-element-kinds
use Rattle.value_answers.proofs.of_element.Reads as of-element-reads
use Rattle.value_answers.proofs.of_read.Kinds as of-read-kinds
use Rattle.value_answers.proofs.of_read.Reads as of-read-reads
use Rattle.value_answers.proofs.of_kind.Kinds as of-kind-kinds
use Rattle.value_answers.proofs.of_kind.Reads as of-kind-reads
use Rattle.value_answers.proofs.of_shaped.Kinds as of-shaped-kinds
use Rattle.value_answers.proofs.of_shaped.Reads as of-shaped-reads
use Rattle.reading_answers.proofs.of_row_at.Kinds as of-row-at-kinds
use Rattle.reading_answers.proofs.of_row_at.Reads as of-row-at-reads
use Rattle.reading_answers.proofs.of_metadata.Kinds as of-metadata-kinds
use Rattle.reading_answers.proofs.of_metadata.Reads as of-metadata-reads
use Rattle.reading_answers.proofs.to_metadata.Kinds as to-metadata-kinds
use Rattle.reading_answers.proofs.to_metadata.Reads as to-metadata-reads
use Rattle.orientation_answers.proofs.of_orientation.Kinds as of-orientation-kinds
use Rattle.orientation_answers.proofs.of_orientation.Reads as of-orientation-reads
use Rattle.orientation_answers.proofs.of_oriented.Kinds as of-oriented-kinds
use Rattle.orientation_answers.proofs.of_oriented.Reads as of-oriented-reads
use Rattle.orientation_answers.proofs.of_orientations.Kinds as of-orientations-kinds
use Rattle.orientation_answers.proofs.of_orientations.Reads as of-orientations-reads
use Rattle.orientation_answers.proofs.of_scaled_row.Kinds as of-scaled-row-kinds
use Rattle.orientation_answers.proofs.of_scaled_row.Reads as of-scaled-row-reads
use Rattle.reading_answers.proofs.of_next_packet.Kinds as of-next-packet-kinds
use Rattle.reading_answers.proofs.of_next_packet.Reads as of-next-packet-reads
use Rattle.reading_answers.proofs.of_in_window.Kinds as of-in-window-kinds
use Rattle.reading_answers.proofs.of_in_window.Reads as of-in-window-reads
use Rattle.reading_answers.proofs.of_next_metadata.Kinds as of-next-metadata-kinds
use Rattle.reading_answers.proofs.of_next_metadata.Reads as of-next-metadata-reads
use Rattle.reading_answers.proofs.of_metadata_in_window.Kinds as of-metadata-in-window-kinds
use Rattle.reading_answers.proofs.of_metadata_in_window.Reads as of-metadata-in-window-reads
use Rattle.matrix_answers.proofs.of_matrix.Kinds as of-matrix-kinds
use Rattle.matrix_answers.proofs.of_matrix.Reads as of-matrix-reads
use Rattle.matrix_answers.proofs.to_matrix.Kinds as to-matrix-kinds
use Rattle.matrix_answers.proofs.to_matrix.Reads as to-matrix-reads
use Rattle.keys.proofs.tag_id.Kinds as tag-id-kinds
use Rattle.keys.proofs.tag_id.Reads as tag-id-reads
use Rattle.keys.proofs.group_from_key.Kinds as group-from-key-kinds
use Rattle.keys.proofs.group_from_key.Reads as group-from-key-reads
use Rattle.klv.proofs.wide.Kinds as wide-kinds
use Rattle.klv.proofs.wide.Reads as wide-reads
use Rattle.klv.proofs.wider.Kinds as wider-kinds
use Rattle.klv.proofs.wider.Reads as wider-reads
use Rattle.klv.proofs.KLV.data_len.Kinds as data-len-kinds
use Rattle.klv.proofs.KLV.data_len.Reads as data-len-reads
use Rattle.klv.proofs.KLV.aligned_data_len.Kinds as aligned-data-len-kinds
use Rattle.klv.proofs.KLV.aligned_data_len.Reads as aligned-data-len-reads
use Rattle.klv.proofs.KLV.is_one_text.Kinds as is-one-text-kinds
use Rattle.klv.proofs.KLV.is_one_text.Reads as is-one-text-reads
use Rattle.klv.proofs.KLV.is_type_text.Kinds as is-type-text-kinds
use Rattle.klv.proofs.KLV.is_type_text.Reads as is-type-text-reads
use Rattle.klv.proofs.Cursor.new.Kinds as new-kinds
use Rattle.klv.proofs.Cursor.new.Reads as new-reads
use Rattle.klv.proofs.Cursor.parse_header.Kinds as parse-header-kinds
use Rattle.klv.proofs.Cursor.parse_header.Reads as parse-header-reads
use Rattle.last_item.proofs.last_item.Kinds as last-item-kinds
use Rattle.last_item.proofs.last_item.Reads as last-item-reads
use Rattle.last_item.proofs.get_last_klv.Kinds as get-last-klv-kinds
use Rattle.last_item.proofs.get_last_klv.Reads as get-last-klv-reads
use Rattle.rows.proofs.room.Kinds as room-kinds
use Rattle.rows.proofs.room.Reads as room-reads
use Rattle.rows.proofs.put_row.Kinds as put-row-kinds
use Rattle.rows.proofs.put_row.Reads as put-row-reads
use Rattle.rows.proofs.row_at.Kinds as row-at-kinds
use Rattle.rows.proofs.row_at.Reads as row-at-reads
use Rattle.rows.proofs.lookup.Kinds as lookup-kinds
use Rattle.rows.proofs.lookup.Reads as lookup-reads
use Rattle.spot.proofs.type_shown.Kinds as type-shown-kinds
use Rattle.spot.proofs.type_shown.Reads as type-shown-reads
use Rattle.spot.proofs.type_after.Kinds as type-after-kinds
use Rattle.spot.proofs.type_after.Reads as type-after-reads
use Rattle.header_bytes.proofs.item_bytes.Kinds as item-bytes-kinds
use Rattle.header_bytes.proofs.item_bytes.Reads as item-bytes-reads
use Rattle.check_pass.proofs.held_back.Kinds as held-back-kinds
use Rattle.check_pass.proofs.held_back.Reads as held-back-reads
use Rattle.check_pass.proofs.check_payload.Kinds as check-payload-kinds
use Rattle.check_pass.proofs.check_payload.Reads as check-payload-reads
use Rattle.header_bytes.proofs.next_at.Kinds as next-at-kinds
use Rattle.header_bytes.proofs.next_at.Reads as next-at-reads
use Rattle.header_bytes.proofs.key_at.Kinds as key-at-kinds
use Rattle.header_bytes.proofs.key_at.Reads as key-at-reads
use Rattle.header_bytes.proofs.row_shape_at.Kinds as row-shape-at-kinds
use Rattle.header_bytes.proofs.row_shape_at.Reads as row-shape-at-reads
use Rattle.metadata.proofs.parse_metadata.Kinds as parse-metadata-kinds
use Rattle.metadata.proofs.parse_metadata.Reads as parse-metadata-reads
use Rattle.fixed.proofs.q15_16.Kinds as q15-16-kinds
use Rattle.fixed.proofs.q15_16.Reads as q15-16-reads
use Rattle.fixed.proofs.q31_32.Kinds as q31-32-kinds
use Rattle.fixed.proofs.q31_32.Reads as q31-32-reads
use Rattle.fixed.proofs.q31_32_exact.Kinds as q31-32-exact-kinds
use Rattle.fixed.proofs.q31_32_exact.Reads as q31-32-exact-reads
use Rattle.custom_type.proofs.resolve_custom_type.Kinds as resolve-custom-type-kinds
use Rattle.custom_type.proofs.resolve_custom_type.Reads as resolve-custom-type-reads
use Rattle.dates.proofs.parse_utcdate.Kinds as parse-utcdate-kinds
use Rattle.dates.proofs.parse_utcdate.Reads as parse-utcdate-reads
use Rattle.texts.proofs.latin1_len.Kinds as latin1-len-kinds
use Rattle.texts.proofs.latin1_len.Reads as latin1-len-reads
use Rattle.texts.proofs.utf8_len.Kinds as utf8-len-kinds
use Rattle.texts.proofs.utf8_len.Reads as utf8-len-reads
use Rattle.utf8.proofs.is_utf8.Kinds as is-utf8-kinds
use Rattle.utf8.proofs.is_utf8.Reads as is-utf8-reads
use Rattle.utf8.proofs.are_utf8.Kinds as are-utf8-kinds
use Rattle.utf8.proofs.are_utf8.Reads as are-utf8-reads
use Rattle.elements.proofs.width.Kinds as width-kinds
use Rattle.elements.proofs.width.Reads as width-reads
use Rattle.elements.proofs.element_at.Kinds as element-at-kinds
use Rattle.elements.proofs.element_at.Reads as element-at-reads
use Rattle.text_values.proofs.row_text.Kinds as row-text-kinds
use Rattle.text_values.proofs.row_text.Reads as row-text-reads
use Rattle.text_values.proofs.element.Kinds as text-element-kinds
use Rattle.text_values.proofs.element.Reads as text-element-reads
use Rattle.text_values.proofs.columns.Kinds as text-columns-kinds
use Rattle.text_values.proofs.columns.Reads as text-columns-reads
use Rattle.text_values.proofs.shape.Kinds as text-shape-kinds
use Rattle.text_values.proofs.shape.Reads as text-shape-reads
use Rattle.date_values.proofs.date_element.Kinds as date-element-kinds
use Rattle.date_values.proofs.date_element.Reads as date-element-reads
use Rattle.date_values.proofs.date_shape.Kinds as date-shape-kinds
use Rattle.date_values.proofs.date_shape.Reads as date-shape-reads
use Rattle.structures.proofs.element.Kinds as structure-element-kinds
use Rattle.structures.proofs.element.Reads as structure-element-reads
use Rattle.structures.proofs.shape.Kinds as structure-shape-kinds
use Rattle.structures.proofs.shape.Reads as structure-shape-reads
use Rattle.payload_values.proofs.is_quaternions.Kinds as is-quaternions-kinds
use Rattle.payload_values.proofs.is_quaternions.Reads as is-quaternions-reads
use Rattle.payload_values.proofs.element_of.Kinds as element-of-kinds
use Rattle.payload_values.proofs.element_of.Reads as element-of-reads
use Rattle.payload_values.proofs.shape_of.Kinds as shape-of-kinds
use Rattle.payload_values.proofs.shape_of.Reads as shape-of-reads
use Rattle.payload_values.proofs.columns_of.Kinds as columns-of-kinds
use Rattle.payload_values.proofs.columns_of.Reads as columns-of-reads
use Rattle.items.proofs.Span.of.Kinds as span-of-kinds
use Rattle.items.proofs.Span.of.Reads as span-of-reads
use Rattle.items.proofs.item_at.Kinds as item-at-kinds
use Rattle.items.proofs.item_at.Reads as item-at-reads
use Rattle.values.proofs.klv_at.Kinds as klv-at-kinds
use Rattle.values.proofs.klv_at.Reads as klv-at-reads
use Rattle.values.proofs.element.Kinds as element-kinds
use Rattle.values.proofs.element.Reads as element-reads
use Rattle.values.proofs.shape_at.Kinds as shape-at-kinds
use Rattle.values.proofs.shape_at.Reads as shape-at-reads
use Rattle.values.proofs.columns_at.Kinds as columns-at-kinds
use Rattle.values.proofs.columns_at.Reads as columns-at-reads
use Rattle.element_bits.proofs.bits_of.Kinds as bits-of-kinds
use Rattle.element_bits.proofs.bits_of.Reads as bits-of-reads
use Rattle.element_bits.proofs.lay.Kinds as lay-elements-kinds
use Rattle.element_bits.proofs.lay.Reads as lay-elements-reads
use Rattle.text_rows.proofs.lay.Kinds as lay-texts-kinds
use Rattle.text_rows.proofs.lay.Reads as lay-texts-reads
use Rattle.structure_rows.proofs.lay.Kinds as lay-structure-kinds
use Rattle.structure_rows.proofs.lay.Reads as lay-structure-reads
use Rattle.all_elements.proofs.elements_at.Kinds as elements-at-kinds
use Rattle.all_elements.proofs.elements_at.Reads as elements-at-reads
use Rattle.parts.proofs.bytes_at.Kinds as bytes-at-kinds
use Rattle.parts.proofs.bytes_at.Reads as bytes-at-reads
use Rattle.parts.proofs.text_at.Kinds as text-at-kinds
use Rattle.parts.proofs.text_at.Reads as text-at-reads
use Rattle.parts.proofs.part_of.Kinds as part-of-kinds
use Rattle.parts.proofs.part_of.Reads as part-of-reads
use Rattle.view.proofs.viewed_element.Kinds as viewed-element-kinds
use Rattle.view.proofs.viewed_element.Reads as viewed-element-reads
use Rattle.view.specs.contracts.View.new as view-new-promise
use Rattle.view.specs.contracts.View.klv as view-klv-promise
use Rattle.view.specs.contracts.View.shape as view-shape-promise
use Rattle.view.specs.contracts.View.columns as view-columns-promise
use Rattle.view.specs.contracts.View.element as view-element-promise
use Rattle.view.specs.contracts.View.bytes as view-bytes-promise
use Rattle.view.specs.contracts.View.text as view-text-promise
use Rattle.view.specs.contracts.View.part as view-part-promise
use Rattle.listing.proofs.list.Kinds as list-kinds
use Rattle.listing.proofs.list.Reads as list-reads
use Rattle.shown_key.proofs.put_key.Kinds as put-key-kinds
use Rattle.shown_key.proofs.put_key.Reads as put-key-reads
use Rattle.listing_line.proofs.put_line.Kinds as put-line-kinds
use Rattle.listing_line.proofs.put_line.Reads as put-line-reads
use Rattle.listing_line.proofs.put_answer.Kinds as put-answer-kinds
use Rattle.listing_line.proofs.put_answer.Reads as put-answer-reads
use Rattle.listing.proofs.put_rows.Kinds as put-rows-kinds
use Rattle.listing.proofs.put_rows.Reads as put-rows-reads
use Rattle.axes_to_matrix.proofs.orientations_of.Kinds as orientations-of-kinds
use Rattle.axes_to_matrix.proofs.orientations_of.Reads as orientations-of-reads
use Rattle.axes_to_matrix.proofs.orientations_to_matrix.Kinds as orientations-to-matrix-kinds
use Rattle.axes_to_matrix.proofs.orientations_to_matrix.Reads as orientations-to-matrix-reads
use Rattle.matrix_to_axes.proofs.matrix_to_orientation.Kinds as matrix-to-orientation-kinds
use Rattle.matrix_to_axes.proofs.matrix_to_orientation.Reads as matrix-to-orientation-reads
use Rattle.matrix_to_axes.proofs.mtrx_to_orientation.Kinds as mtrx-to-orientation-kinds
use Rattle.matrix_to_axes.proofs.mtrx_to_orientation.Reads as mtrx-to-orientation-reads
use Rattle.orientation.specs.contracts.orientation_of_group as orientation-of-group-promise
use Rattle.search.proofs.find_devc.Kinds as find-devc-kinds
use Rattle.search.proofs.find_devc.Reads as find-devc-reads
use Rattle.search.proofs.devc_or_end.Kinds as devc-or-end-kinds
use Rattle.search.proofs.devc_or_end.Reads as devc-or-end-reads
use Rattle.raw_file.proofs.Packets.new.Kinds as packets-new-kinds
use Rattle.raw_file.proofs.Packets.new.Reads as packets-new-reads
use Rattle.raw_file.proofs.Packets.next.Kinds as packets-next-kinds
use Rattle.raw_file.proofs.Packets.next.Reads as packets-next-reads
use Rattle.raw_file.proofs.Packets.next_in.Kinds as packets-next-in-kinds
use Rattle.raw_file.proofs.Packets.next_in.Reads as packets-next-in-reads
use Rattle.window.proofs.next_step.Kinds as next-step-kinds
use Rattle.window.proofs.next_step.Reads as next-step-reads
use Rattle.window.proofs.keep.Kinds as keep-kinds
use Rattle.window.proofs.keep.Reads as keep-reads
use Rattle.raw_metadata.proofs.next_metadata.Kinds as next-metadata-kinds
use Rattle.raw_metadata.proofs.next_metadata.Reads as next-metadata-reads
use Rattle.raw_metadata.proofs.next_metadata_in.Kinds as next-metadata-in-kinds
use Rattle.raw_metadata.proofs.next_metadata_in.Reads as next-metadata-in-reads
use Rattle.float_bits.proofs.single_bits.Kinds as single-bits-kinds
use Rattle.float_bits.proofs.single_bits.Reads as single-bits-reads
use Rattle.float_bits.proofs.double_bits.Kinds as double-bits-kinds
use Rattle.float_bits.proofs.double_bits.Reads as double-bits-reads
use Rattle.tagged.specs.contracts.Group.tagged as group-tagged-promise
use Rattle.tagged.proofs.is_one_number.Kinds as is-one-number-kinds
use Rattle.tagged.proofs.is_one_number.Reads as is-one-number-reads
use Rattle.scaling.proofs.negated.Kinds as negated-kinds
use Rattle.scaling.proofs.negated.Reads as negated-reads
use Rattle.scaling.proofs.scaled.Kinds as scaled-kinds
use Rattle.scaling.proofs.scaled.Reads as scaled-reads
use Rattle.quaternions.specs.contracts.scaled_quaternion as scaled-quaternion-promise
use Rattle.stamps.specs.contracts.stamp_us as stamp-us-promise
use Rattle.durations.proofs.get_avg_sample_duration.Kinds as get-avg-sample-duration-kinds
use Rattle.durations.proofs.get_avg_sample_duration.Reads as get-avg-sample-duration-reads
use Rattle.elements.proofs.exact_at.Kinds as exact-at-kinds
use Rattle.elements.proofs.exact_at.Reads as exact-at-reads
use Rattle.take_lines.proofs.put_packet_line.Kinds as put-packet-line-kinds
use Rattle.take_lines.proofs.put_packet_line.Reads as put-packet-line-reads
use Rattle.take.proofs.put_packet.Kinds as put-packet-kinds
use Rattle.take.proofs.put_packet.Reads as put-packet-reads
use Rattle.take_lines.proofs.put_long_packet.Kinds as put-long-packet-kinds
use Rattle.take_lines.proofs.put_long_packet.Reads as put-long-packet-reads
use Rattle.take_lines.proofs.put_totals.Kinds as put-totals-kinds
use Rattle.take_lines.proofs.put_totals.Reads as put-totals-reads

-- a promise over n lifetimes, parameters and a result settles the result
abbrev pub OneResult : (n : ℕ) (parameters : List (ParamKind n)) (result : ResultKind n) → Out n parameters result → Type 0
OneResult n parameters result promise =
    (κs : Lfts n) (a : Dens κs parameters) (x y : (res_t result κs).Denot) (s t : AtExit (ended_of n parameters result) κs)
    → promise κs a x s → promise κs a y t → x ≡ y

pub fault_at : OneResult 0 fault-at-kinds.ps fault-at-kinds.r fault-at-reads.Learnt
fault_at κs a x y s t p q = p ∙ sym q

pub big_endian_lem : OneResult 1 big-endian-kinds.ps big-endian-kinds.r big-endian-reads.Learnt
big_endian_lem κs a x y s t p q = p ∙ sym q

pub tag_id : OneResult 0 tag-id-kinds.ps tag-id-kinds.r tag-id-reads.Learnt
tag_id κs a x y s t p q = p ∙ sym q

pub group_from_key : OneResult 0 group-from-key-kinds.ps group-from-key-kinds.r group-from-key-reads.Learnt
group_from_key κs a x y s t p q = p ∙ sym q

pub wide : OneResult 0 wide-kinds.ps wide-kinds.r wide-reads.Learnt
wide κs a x y s t p q = p.0 ∙ sym q.0

pub wider : OneResult 0 wider-kinds.ps wider-kinds.r wider-reads.Learnt
wider κs a x y s t p q = p.0 ∙ sym q.0

pub data_len_lem : OneResult 0 data-len-kinds.ps data-len-kinds.r data-len-reads.Learnt
data_len_lem κs a x y s t p q = p.0 ∙ sym q.0

pub aligned_data_len : OneResult 0 aligned-data-len-kinds.ps aligned-data-len-kinds.r aligned-data-len-reads.Learnt
aligned_data_len κs a x y s t p q = p.0 ∙ sym q.0

pub is_one_text : OneResult 0 is-one-text-kinds.ps is-one-text-kinds.r is-one-text-reads.Learnt
is_one_text κs a x y s t p q = p ∙ sym q

pub is_type_text : OneResult 0 is-type-text-kinds.ps is-type-text-kinds.r is-type-text-reads.Learnt
is_type_text κs a x y s t p q = p ∙ sym q

pub new : OneResult 0 new-kinds.ps new-kinds.r new-reads.Learnt
new κs a x y s t p q = λ i. record { at = (p ∙ sym q) i }

pub parse_header : OneResult 1 parse-header-kinds.ps parse-header-kinds.r parse-header-reads.Learnt
parse_header κs a x y s t p q = p ∙ sym q

pub last_item_lem : OneResult 1 last-item-kinds.ps last-item-kinds.r last-item-reads.Learnt
last_item_lem κs a x y s t p q = p ∙ sym q

pub get_last_klv : OneResult 1 get-last-klv-kinds.ps get-last-klv-kinds.r get-last-klv-reads.Learnt
get_last_klv κs a x y s t p q = p ∙ sym q

pub q15_16 : OneResult 0 q15-16-kinds.ps q15-16-kinds.r q15-16-reads.Learnt
q15_16 κs a x y s t p q = p ∙ sym q

pub q31_32 : OneResult 0 q31-32-kinds.ps q31-32-kinds.r q31-32-reads.Learnt
q31_32 κs a x y s t p q = p ∙ sym q

pub q31_32_exact : OneResult 0 q31-32-exact-kinds.ps q31-32-exact-kinds.r q31-32-exact-reads.Learnt
q31_32_exact κs a x y s t p q = p ∙ sym q

-- a promise settles the result and the buffer that was lent: what `lent` reads of the parameters at exit
abbrev pub OneAnswer : {B : Type 0} (n : ℕ) (parameters : List (ParamKind n)) (result : ResultKind n) → Out n parameters result
    → ((κs : Lfts n) → AtExit (ended_of n parameters result) κs → B) → Type 0
OneAnswer n parameters result promise lent =
    (κs : Lfts n) (a : Dens κs parameters) (x y : (res_t result κs).Denot) (s t : AtExit (ended_of n parameters result) κs)
    → promise κs a x s → promise κs a y t → (x ≡ y) × (lent κs s ≡ lent κs t)

pub resolve_custom_type : OneAnswer 2 resolve-custom-type-kinds.ps resolve-custom-type-kinds.r resolve-custom-type-reads.Learnt (λ κs s. s.1.0.now)
resolve_custom_type κs a x y s t p q = (p.is ∙ sym q.is, p.out ∙ sym q.out)

pub parse_utcdate : OneResult 1 parse-utcdate-kinds.ps parse-utcdate-kinds.r parse-utcdate-reads.Learnt
parse_utcdate κs a x y s t p q = p ∙ sym q

pub latin1_len : OneResult 1 latin1-len-kinds.ps latin1-len-kinds.r latin1-len-reads.Learnt
latin1_len κs a x y s t p q = p ∙ sym q

pub utf8_len : OneResult 1 utf8-len-kinds.ps utf8-len-kinds.r utf8-len-reads.Learnt
utf8_len κs a x y s t p q = p ∙ sym q

pub is_utf8 : OneResult 1 is-utf8-kinds.ps is-utf8-kinds.r is-utf8-reads.Learnt
is_utf8 κs a x y s t p q = p ∙ sym q

pub are_utf8 : OneResult 1 are-utf8-kinds.ps are-utf8-kinds.r are-utf8-reads.Learnt
are_utf8 κs a x y s t p q = p ∙ sym q

pub width : OneResult 0 width-kinds.ps width-kinds.r width-reads.Learnt
width κs a x y s t p q = p.0 ∙ sym q.0

pub element_at_lem : OneResult 1 element-at-kinds.ps element-at-kinds.r element-at-reads.Learnt
element_at_lem κs a x y s t p q = p ∙ sym q

pub row_text_lem : (κs : Lfts 1) (a : Dens κs row-text-kinds.ps) (x y : (res_t row-text-kinds.r κs).Denot) (s t : AtExit (ended_of 1 row-text-kinds.ps row-text-kinds.r) κs)
    → row-text-reads.Learnt κs a x s → row-text-reads.Learnt κs a y t → x.now ≡ y.now
row_text_lem κs a x y s t p q = p ∙ sym q

pub text_element : OneResult 1 text-element-kinds.ps text-element-kinds.r text-element-reads.Learnt
text_element κs a x y s t p q = p ∙ sym q

pub text_columns : OneResult 1 text-columns-kinds.ps text-columns-kinds.r text-columns-reads.Learnt
text_columns κs a x y s t p q = p ∙ sym q

pub text_shape : OneResult 1 text-shape-kinds.ps text-shape-kinds.r text-shape-reads.Learnt
text_shape κs a x y s t p q = p ∙ sym q

pub date_element : OneResult 1 date-element-kinds.ps date-element-kinds.r date-element-reads.Learnt
date_element κs a x y s t p q = p ∙ sym q

pub date_shape : OneResult 1 date-shape-kinds.ps date-shape-kinds.r date-shape-reads.Learnt
date_shape κs a x y s t p q = p ∙ sym q

pub structure_element : OneResult 2 structure-element-kinds.ps structure-element-kinds.r structure-element-reads.Learnt
structure_element κs a x y s t p q = p ∙ sym q

pub structure_shape : OneResult 2 structure-shape-kinds.ps structure-shape-kinds.r structure-shape-reads.Learnt
structure_shape κs a x y s t p q = p ∙ sym q

pub is_quaternions_lem : OneResult 0 is-quaternions-kinds.ps is-quaternions-kinds.r is-quaternions-reads.Learnt
is_quaternions_lem κs a x y s t p q = p ∙ sym q

pub element_of_lem : OneResult 2 element-of-kinds.ps element-of-kinds.r element-of-reads.Learnt
element_of_lem κs a x y s t p q = p ∙ sym q

pub shape_of : OneResult 2 shape-of-kinds.ps shape-of-kinds.r shape-of-reads.Learnt
shape_of κs a x y s t p q = p ∙ sym q

pub columns_of_lem : OneResult 2 columns-of-kinds.ps columns-of-kinds.r columns-of-reads.Learnt
columns_of_lem κs a x y s t p q = p ∙ sym q

pub span_of : (κs : Lfts 1) (a : Dens κs span-of-kinds.ps) (x y : (res_t span-of-kinds.r κs).Denot) (s t : AtExit (ended_of 1 span-of-kinds.ps span-of-kinds.r) κs)
    → span-of-reads.Learnt κs a x s → span-of-reads.Learnt κs a y t → x.now ≡ y.now
span_of κs a x y s t p q = p ∙ sym q

pub item_at : OneResult 1 item-at-kinds.ps item-at-kinds.r item-at-reads.Learnt
item_at κs a x y s t p q = p.is ∙ sym q.is

pub klv_at : OneResult 1 klv-at-kinds.ps klv-at-kinds.r klv-at-reads.Learnt
klv_at κs a x y s t p q = p ∙ sym q

pub element : OneResult 1 element-kinds.ps element-kinds.r element-reads.Learnt
element κs a x y s t p q = p ∙ sym q

pub shape_at : OneResult 1 shape-at-kinds.ps shape-at-kinds.r shape-at-reads.Learnt
shape_at κs a x y s t p q = p ∙ sym q

pub columns_at : OneResult 1 columns-at-kinds.ps columns-at-kinds.r columns-at-reads.Learnt
columns_at κs a x y s t p q = p ∙ sym q

pub bits_of_lem : OneResult 0 bits-of-kinds.ps bits-of-kinds.r bits-of-reads.Learnt
bits_of_lem κs a x y s t p q = p ∙ sym q

pub lay_elements : OneAnswer 2 lay-elements-kinds.ps lay-elements-kinds.r lay-elements-reads.Learnt (λ κs s. s.1.1.0.now)
lay_elements κs a x y s t p q = (p.is ∙ sym q.is, p.numbers ∙ sym q.numbers)

pub lay_texts : OneAnswer 2 lay-texts-kinds.ps lay-texts-kinds.r lay-texts-reads.Learnt (λ κs s. s.1.1.0.now)
lay_texts κs a x y s t p q = (p.is ∙ sym q.is, p.numbers ∙ sym q.numbers)

pub lay_structure : OneAnswer 3 lay-structure-kinds.ps lay-structure-kinds.r lay-structure-reads.Learnt (λ κs s. s.1.1.1.0.now)
lay_structure κs a x y s t p q = (p.is ∙ sym q.is, p.numbers ∙ sym q.numbers)

pub elements_at : OneAnswer 2 elements-at-kinds.ps elements-at-kinds.r elements-at-reads.Learnt (λ κs s. s.1.1.1.0.now)
elements_at κs a x y s t p q = (p.is ∙ sym q.is, p.numbers ∙ sym q.numbers)

pub room : OneResult 0 room-kinds.ps room-kinds.r room-reads.Learnt
room κs a x y s t p q = p ∙ sym q

pub put_row : OneAnswer 1 put-row-kinds.ps put-row-kinds.r put-row-reads.Learnt (λ κs s. s.0.now)
put_row κs a x y s t p q = (p.is ∙ sym q.is, p.numbers ∙ sym q.numbers)

pub row_at : OneResult 1 row-at-kinds.ps row-at-kinds.r row-at-reads.Learnt
row_at κs a x y s t p q = p ∙ sym q

pub lookup : OneResult 1 lookup-kinds.ps lookup-kinds.r lookup-reads.Learnt
lookup κs a x y s t p q = p ∙ sym q

pub type_shown_lem : OneResult 0 type-shown-kinds.ps type-shown-kinds.r type-shown-reads.Learnt
type_shown_lem κs a x y s t p q = p ∙ sym q

pub type_after_lem : OneResult 0 type-after-kinds.ps type-after-kinds.r type-after-reads.Learnt
type_after_lem κs a x y s t p q = p ∙ sym q

pub item_bytes_lem : OneResult 0 item-bytes-kinds.ps item-bytes-kinds.r item-bytes-reads.Learnt
item_bytes_lem κs a x y s t p q = p ∙ sym q

pub held_back : OneResult 1 held-back-kinds.ps held-back-kinds.r held-back-reads.Learnt
held_back κs a x y s t p q = p ∙ sym q

pub check_payload : OneResult 1 check-payload-kinds.ps check-payload-kinds.r check-payload-reads.Learnt
check_payload κs a x y s t p q = p ∙ sym q

pub next_at_lem : OneResult 1 next-at-kinds.ps next-at-kinds.r next-at-reads.Learnt
next_at_lem κs a x y s t p q = p ∙ sym q

pub key_at : OneResult 1 key-at-kinds.ps key-at-kinds.r key-at-reads.Learnt
key_at κs a x y s t p q = p ∙ sym q

pub row_shape_at : OneResult 1 row-shape-at-kinds.ps row-shape-at-kinds.r row-shape-at-reads.Learnt
row_shape_at κs a x y s t p q = p ∙ sym q

pub parse_metadata : OneAnswer 2 parse-metadata-kinds.ps parse-metadata-kinds.r parse-metadata-reads.Learnt (λ κs s. s.1.1.0.now)
parse_metadata κs a x y s t p q = (p.is ∙ sym q.is, p.rows ∙ sym q.rows)

pub put : OneAnswer 1 put-kinds.ps put-kinds.r put_reads.Learnt (λ κs s. s.0.now)
put κs a x y s t p q = (p.is ∙ sym q.is, p.leaves ∙ sym q.leaves)

pub has_room : OneResult 0 has-room-kinds.ps has-room-kinds.r has-room-reads.Learnt
has_room κs a x y s t p q = p ∙ sym q

pub put_bytes : OneAnswer 2 put-bytes-kinds.ps put-bytes-kinds.r put-bytes-reads.Learnt (λ κs s. s.0.now)
put_bytes κs a x y s t p q = (p.is ∙ sym q.is, p.leaves ∙ sym q.leaves)

pub put_decimal : OneAnswer 1 put-decimal-kinds.ps put-decimal-kinds.r put-decimal-reads.Learnt (λ κs s. s.0.now)
put_decimal κs a x y s t p q = (p.is ∙ sym q.is, p.leaves ∙ sym q.leaves)

pub put_hex : OneAnswer 1 put-hex-kinds.ps put-hex-kinds.r put-hex-reads.Learnt (λ κs s. s.0.now)
put_hex κs a x y s t p q = (p.is ∙ sym q.is, p.leaves ∙ sym q.leaves)

pub put_signed : OneAnswer 1 put-signed-kinds.ps put-signed-kinds.r put-signed-reads.Learnt (λ κs s. s.0.now)
put_signed κs a x y s t p q = (p.is ∙ sym q.is, p.leaves ∙ sym q.leaves)

pub pieces : OneResult 1 pieces-kinds.ps pieces-kinds.r pieces-reads.Learnt
pieces κs a x y s t p q = p ∙ sym q

pub decimal_number : OneResult 1 decimal-number-kinds.ps decimal-number-kinds.r decimal-number-reads.Learnt
decimal_number κs a x y s t p q = p ∙ sym q

pub hex_number : OneResult 1 hex-number-kinds.ps hex-number-kinds.r hex-number-reads.Learnt
hex_number κs a x y s t p q = p ∙ sym q

pub unhex : OneAnswer 2 unhex-kinds.ps unhex-kinds.r unhex-reads.Learnt (λ κs s. s.1.0.now)
unhex κs a x y s t p q = (p.is ∙ sym q.is, p.leaves ∙ sym q.leaves)

-- what is settled of a part that is handed back is its bytes
pub piece : (κs : Lfts 1) (a : Dens κs piece-kinds.ps) (x y : (res_t piece-kinds.r κs).Denot) (s t : AtExit (ended_of 1 piece-kinds.ps piece-kinds.r) κs)
    → piece-reads.Learnt κs a x s → piece-reads.Learnt κs a y t → x.now ≡ y.now
piece κs a x y s t p q = p ∙ sym q

pub text_part : (κs : Lfts 1) (a : Dens κs part-kinds.ps) (x y : (res_t part-kinds.r κs).Denot) (s t : AtExit (ended_of 1 part-kinds.ps part-kinds.r) κs)
    → part-reads.Learnt κs a x s → part-reads.Learnt κs a y t → x.now ≡ y.now
text_part κs a x y s t p q = p ∙ sym q

pub line_from_lem : (κs : Lfts 1) (a : Dens κs line-from-kinds.ps) (x y : (res_t line-from-kinds.r κs).Denot) (s t : AtExit (ended_of 1 line-from-kinds.ps line-from-kinds.r) κs)
    → line-from-reads.Learnt κs a x s → line-from-reads.Learnt κs a y t → x.now ≡ y.now
line_from_lem κs a x y s t p q = p ∙ sym q

pub unhex_word : OneAnswer 2 unhex-word-kinds.ps unhex-word-kinds.r unhex-word-reads.Learnt (λ κs s. s.1.0.now)
unhex_word κs a x y s t p q = (p.is ∙ sym q.is, p.leaves ∙ sym q.leaves)

pub put_key : OneAnswer 1 put-key-kinds.ps put-key-kinds.r put-key-reads.Learnt (λ κs s. s.0.now)
put_key κs a x y s t p q = (p.is ∙ sym q.is, p.leaves ∙ sym q.leaves)

pub put_line : OneAnswer 1 put-line-kinds.ps put-line-kinds.r put-line-reads.Learnt (λ κs s. s.0.now)
put_line κs a x y s t p q = (p.is ∙ sym q.is, p.leaves ∙ sym q.leaves)

pub put_answer : OneAnswer 1 put-answer-kinds.ps put-answer-kinds.r put-answer-reads.Learnt (λ κs s. s.0.now)
put_answer κs a x y s t p q = (p.is ∙ sym q.is, p.leaves ∙ sym q.leaves)

pub put_rows : OneAnswer 2 put-rows-kinds.ps put-rows-kinds.r put-rows-reads.Learnt (λ κs s. s.0.now)
put_rows κs a x y s t p q = (p.is ∙ sym q.is, p.leaves ∙ sym q.leaves)

-- the lent numbers and the buffer
pub list : OneAnswer {B = List ℕ × List ℕ} 3 list-kinds.ps list-kinds.r list-reads.Learnt (λ κs s. (s.1.0.now, s.1.1.0.now))
list κs a x y s t p q = (p.is ∙ sym q.is, λ i. ((p.rows ∙ sym q.rows) i, (p.leaves ∙ sym q.leaves) i))

pub orientations_of_lem : OneResult 2 orientations-of-kinds.ps orientations-of-kinds.r orientations-of-reads.Learnt
orientations_of_lem κs a x y s t p q = p ∙ sym q

pub orientations_to_matrix : OneResult 0 orientations-to-matrix-kinds.ps orientations-to-matrix-kinds.r orientations-to-matrix-reads.Learnt
orientations_to_matrix κs a x y s t p q = p ∙ sym q

pub matrix_to_orientation : OneResult 0 matrix-to-orientation-kinds.ps matrix-to-orientation-kinds.r matrix-to-orientation-reads.Learnt
matrix_to_orientation κs a x y s t p q = p ∙ sym q

pub mtrx_to_orientation : OneResult 1 mtrx-to-orientation-kinds.ps mtrx-to-orientation-kinds.r mtrx-to-orientation-reads.Learnt
mtrx_to_orientation κs a x y s t p q = p ∙ sym q

pub find_devc : OneResult 1 find-devc-kinds.ps find-devc-kinds.r find-devc-reads.Learnt
find_devc κs a x y s t p q = p ∙ sym q

pub devc_or_end_lem : OneResult 1 devc-or-end-kinds.ps devc-or-end-kinds.r devc-or-end-reads.Learnt
devc_or_end_lem κs a x y s t p q = p ∙ sym q

pub packets_new : OneResult 0 packets-new-kinds.ps packets-new-kinds.r packets-new-reads.Learnt
packets_new κs a x y s t p q = λ i. record { at = (p ∙ sym q) i }

pub packets_next : OneResult 1 packets-next-kinds.ps packets-next-kinds.r packets-next-reads.Learnt
packets_next κs a x y s t p q = p ∙ sym q

pub packets_next_in : OneResult 1 packets-next-in-kinds.ps packets-next-in-kinds.r packets-next-in-reads.Learnt
packets_next_in κs a x y s t p q = p ∙ sym q

pub next_step_lem : OneResult 1 next-step-kinds.ps next-step-kinds.r next-step-reads.Learnt
next_step_lem κs a x y s t p q = p ∙ sym q

pub keep : OneAnswer 1 keep-kinds.ps keep-kinds.r keep-reads.Learnt (λ κs s. s.0.now)
keep κs a x y s t p q = (p.is ∙ sym q.is, p.leaves ∙ sym q.leaves)

pub next_metadata : OneAnswer 2 next-metadata-kinds.ps next-metadata-kinds.r next-metadata-reads.Learnt (λ κs s. s.1.1.1.0.now)
next_metadata κs a x y s t p q = (p.is ∙ sym q.is, p.rows ∙ sym q.rows)

pub next_metadata_in : OneAnswer 2 next-metadata-in-kinds.ps next-metadata-in-kinds.r next-metadata-in-reads.Learnt (λ κs s. s.1.1.1.1.0.now)
next_metadata_in κs a x y s t p q = (p.is ∙ sym q.is, p.rows ∙ sym q.rows)

pub single_bits_lem : OneResult 0 single-bits-kinds.ps single-bits-kinds.r single-bits-reads.Learnt
single_bits_lem κs a x y s t p q = p ∙ sym q

pub double_bits_lem : OneResult 0 double-bits-kinds.ps double-bits-kinds.r double-bits-reads.Learnt
double_bits_lem κs a x y s t p q = p ∙ sym q

pub is_one_number : OneResult 0 is-one-number-kinds.ps is-one-number-kinds.r is-one-number-reads.Learnt
is_one_number κs a x y s t p q = p ∙ sym q

pub negated : OneResult 0 negated-kinds.ps negated-kinds.r negated-reads.Learnt
negated κs a x y s t p q = p ∙ sym q

pub scaled : OneResult 0 scaled-kinds.ps scaled-kinds.r scaled-reads.Learnt
scaled κs a x y s t p q = p ∙ sym q

pub get_avg_sample_duration : OneResult 5 get-avg-sample-duration-kinds.ps get-avg-sample-duration-kinds.r get-avg-sample-duration-reads.Learnt
get_avg_sample_duration κs a x y s t p q = p ∙ sym q

pub exact_at_lem : OneResult 1 exact-at-kinds.ps exact-at-kinds.r exact-at-reads.Learnt
exact_at_lem κs a x y s t p q = p ∙ sym q

-- the lent numbers and the buffer
pub put_packet : OneAnswer {B = List ℕ × List ℕ} 3 put-packet-kinds.ps put-packet-kinds.r put-packet-reads.Learnt (λ κs s. (s.1.1.1.1.0.now, s.1.1.1.1.1.0.now))
put_packet κs a x y s t p q = (
  λ i. record { end = (p.lays.is ∙ sym q.lays.is) i; accepted = (p.is ∙ sym q.is) i },
  λ i. ((p.rows ∙ sym q.rows) i, (p.lays.leaves ∙ sym q.lays.leaves) i),
)

pub put_long_packet : OneAnswer 1 put-long-packet-kinds.ps put-long-packet-kinds.r put-long-packet-reads.Learnt (λ κs s. s.1.1.1.1.0.now)
put_long_packet κs a x y s t p q = (p.is ∙ sym q.is, p.leaves ∙ sym q.leaves)

pub put_packet_line : OneAnswer 1 put-packet-line-kinds.ps put-packet-line-kinds.r put-packet-line-reads.Learnt (λ κs s. s.0.now)
put_packet_line κs a x y s t p q = (p.is ∙ sym q.is, p.leaves ∙ sym q.leaves)

pub put_totals : OneAnswer 1 put-totals-kinds.ps put-totals-kinds.r put-totals-reads.Learnt (λ κs s. s.0.now)
put_totals κs a x y s t p q = (p.is ∙ sym q.is, p.leaves ∙ sym q.leaves)

pub of_expanded_lem : OneResult 0 of-expanded-kinds.ps of-expanded-kinds.r of-expanded-reads.Learnt
of_expanded_lem κs a x y s t p q = p ∙ sym q

pub of_date_lem : OneResult 0 of-date-kinds.ps of-date-kinds.r of-date-reads.Learnt
of_date_lem κs a x y s t p q = p ∙ sym q

pub of_count_lem : OneResult 0 of-count-kinds.ps of-count-kinds.r of-count-reads.Learnt
of_count_lem κs a x y s t p q = p ∙ sym q

pub of_found_lem : OneResult 0 of-found-kinds.ps of-found-kinds.r of-found-reads.Learnt
of_found_lem κs a x y s t p q = p ∙ sym q

pub of_stamp_lem : OneResult 0 of-stamp-kinds.ps of-stamp-kinds.r of-stamp-reads.Learnt
of_stamp_lem κs a x y s t p q = p ∙ sym q

pub of_devc_lem : OneResult 0 of-devc-kinds.ps of-devc-kinds.r of-devc-reads.Learnt
of_devc_lem κs a x y s t p q = p ∙ sym q

pub of_number_lem : OneResult 0 of-number-kinds.ps of-number-kinds.r of-number-reads.Learnt
of_number_lem κs a x y s t p q = p ∙ sym q

pub of_decoded_lem : OneResult 0 of-decoded-kinds.ps of-decoded-kinds.r of-decoded-reads.Learnt
of_decoded_lem κs a x y s t p q = p ∙ sym q

pub of_average_lem : OneResult 0 of-average-kinds.ps of-average-kinds.r of-average-reads.Learnt
of_average_lem κs a x y s t p q = p ∙ sym q

pub of_header_lem : OneResult 0 of-header-kinds.ps of-header-kinds.r of-header-reads.Learnt
of_header_lem κs a x y s t p q = p ∙ sym q

pub of_last_item_lem : OneResult 0 of-last-item-kinds.ps of-last-item-kinds.r of-last-item-reads.Learnt
of_last_item_lem κs a x y s t p q = p ∙ sym q

pub of_headed_lem : OneResult 0 of-headed-kinds.ps of-headed-kinds.r of-headed-reads.Learnt
of_headed_lem κs a x y s t p q = p ∙ sym q

pub of_part_lem : OneResult 0 of-part-kinds.ps of-part-kinds.r of-part-reads.Learnt
of_part_lem κs a x y s t p q = p ∙ sym q

pub of_tagged_lem : OneResult 0 of-tagged-kinds.ps of-tagged-kinds.r of-tagged-reads.Learnt
of_tagged_lem κs a x y s t p q = p ∙ sym q

pub of_element_lem : OneResult 0 of-element-kinds.ps of-element-kinds.r of-element-reads.Learnt
of_element_lem κs a x y s t p q = p ∙ sym q

pub of_read_lem : OneResult 0 of-read-kinds.ps of-read-kinds.r of-read-reads.Learnt
of_read_lem κs a x y s t p q = p ∙ sym q

pub of_kind_lem : OneResult 0 of-kind-kinds.ps of-kind-kinds.r of-kind-reads.Learnt
of_kind_lem κs a x y s t p q = p ∙ sym q

pub of_shaped_lem : OneResult 0 of-shaped-kinds.ps of-shaped-kinds.r of-shaped-reads.Learnt
of_shaped_lem κs a x y s t p q = p ∙ sym q

pub of_row_at_lem : OneResult 0 of-row-at-kinds.ps of-row-at-kinds.r of-row-at-reads.Learnt
of_row_at_lem κs a x y s t p q = p ∙ sym q

pub of_metadata_lem : OneResult 0 of-metadata-kinds.ps of-metadata-kinds.r of-metadata-reads.Learnt
of_metadata_lem κs a x y s t p q = p ∙ sym q

pub to_metadata_lem : OneResult 0 to-metadata-kinds.ps to-metadata-kinds.r to-metadata-reads.Learnt
to_metadata_lem κs a x y s t p q = p ∙ sym q

pub of_orientation_lem : OneResult 0 of-orientation-kinds.ps of-orientation-kinds.r of-orientation-reads.Learnt
of_orientation_lem κs a x y s t p q = p ∙ sym q

pub of_oriented_lem : OneResult 0 of-oriented-kinds.ps of-oriented-kinds.r of-oriented-reads.Learnt
of_oriented_lem κs a x y s t p q = p ∙ sym q

pub of_orientations_lem : OneResult 0 of-orientations-kinds.ps of-orientations-kinds.r of-orientations-reads.Learnt
of_orientations_lem κs a x y s t p q = p ∙ sym q

pub of_scaled_row_lem : OneResult 0 of-scaled-row-kinds.ps of-scaled-row-kinds.r of-scaled-row-reads.Learnt
of_scaled_row_lem κs a x y s t p q = p ∙ sym q

pub of_next_packet_lem : OneResult 0 of-next-packet-kinds.ps of-next-packet-kinds.r of-next-packet-reads.Learnt
of_next_packet_lem κs a x y s t p q = p ∙ sym q

pub of_in_window_lem : OneResult 0 of-in-window-kinds.ps of-in-window-kinds.r of-in-window-reads.Learnt
of_in_window_lem κs a x y s t p q = p ∙ sym q

pub of_next_metadata_lem : OneResult 0 of-next-metadata-kinds.ps of-next-metadata-kinds.r of-next-metadata-reads.Learnt
of_next_metadata_lem κs a x y s t p q = p ∙ sym q

pub of_metadata_in_window_lem : OneResult 0 of-metadata-in-window-kinds.ps of-metadata-in-window-kinds.r of-metadata-in-window-reads.Learnt
of_metadata_in_window_lem κs a x y s t p q = p ∙ sym q

pub of_matrix_lem : OneResult 0 of-matrix-kinds.ps of-matrix-kinds.r of-matrix-reads.Learnt
of_matrix_lem κs a x y s t p q = p ∙ sym q

pub to_matrix_lem : OneResult 0 to-matrix-kinds.ps to-matrix-kinds.r to-matrix-reads.Learnt
to_matrix_lem κs a x y s t p q = p ∙ sym q

-- ---- a view

pub bytes_at : OneResult 1 bytes-at-kinds.ps bytes-at-kinds.r bytes-at-reads.Learnt
bytes_at κs a x y s t p q = p ∙ sym q

pub text_at_lem : OneResult 1 text-at-kinds.ps text-at-kinds.r text-at-reads.Learnt
text_at_lem κs a x y s t p q = p ∙ sym q

pub viewed_element : OneResult 1 viewed-element-kinds.ps viewed-element-kinds.r viewed-element-reads.Learnt
viewed_element κs a x y s t p q = p ∙ sym q

-- as of `piece`
pub part_of : (κs : Lfts 1) (a : Dens κs part-of-kinds.ps) (x y : (res_t part-of-kinds.r κs).Denot) (s t : AtExit (ended_of 1 part-of-kinds.ps part-of-kinds.r) κs)
    → part-of-reads.Learnt κs a x s → part-of-reads.Learnt κs a y t → x.now ≡ y.now
part_of κs a x y s t p q = p ∙ sym q

-- two facts that are both said make a third
both_said : {M : Type 1} (𝓤 : Ura M) (φ ψ χ : Type 0) → (φ → ψ → χ) → ent 𝓤 (sep 𝓤 (fact 𝓤 φ) (fact 𝓤 ψ)) (fact 𝓤 χ)
both_said 𝓤 φ ψ χ f =
    fact_use 𝓤 φ (fst∗ 𝓤 (fact 𝓤 φ) (fact 𝓤 ψ)) (λ p. fact_use 𝓤 ψ (snd∗ 𝓤 (fact 𝓤 φ) (fact 𝓤 ψ)) (λ q. fact_i 𝓤 χ (sep 𝓤 (fact 𝓤 φ) (fact 𝓤 ψ)) (f p q)))

-- of a method of a view, and of what is asked of a group, nothing is read off the source but the clauses themselves: what
-- they ensure of two results, together, says that what `of` reads of them is the same
abbrev pub OneOfMethod : {M : Type 1} (𝓤 : Ura M) {B : Type 0} (T : Ended) → ((κs : Lfts T.signature.lifetimes) → Res T.signature κs → B) → Clauses 𝓤 T → Type 1
OneOfMethod 𝓤 T of promise =
    (κs : Lfts T.signature.lifetimes) (a : Args T.signature κs) (g : (promise κs a).ghost) (x y : Res T.signature κs) (s t : AtExit T κs)
    → ent 𝓤 (sep 𝓤 ((promise κs a).ensures g x s) ((promise κs a).ensures g y t)) (fact 𝓤 (of κs x ≡ of κs y))

pub view_klv : {M : Type 1} {𝓤 : Ura M} (𝓛 : Logic 𝓤) (mem : Memory → SProp 𝓤) (run : Routine → Fun 𝓤) → OneOfMethod 𝓤 view-klv-promise.ended (λ κs r. r) (view-klv-promise.clauses 𝓛 mem run)
view_klv {𝓤 = 𝓤} 𝓛 mem run κs a g x y s t = both_said 𝓤 _ _ (x ≡ y) (λ p q. p ∙ sym q)

pub view_shape : {M : Type 1} {𝓤 : Ura M} (𝓛 : Logic 𝓤) (mem : Memory → SProp 𝓤) (run : Routine → Fun 𝓤) → OneOfMethod 𝓤 view-shape-promise.ended (λ κs r. r) (view-shape-promise.clauses 𝓛 mem run)
view_shape {𝓤 = 𝓤} 𝓛 mem run κs a g x y s t = both_said 𝓤 _ _ (x ≡ y) (λ p q. p ∙ sym q)

pub view_columns : {M : Type 1} {𝓤 : Ura M} (𝓛 : Logic 𝓤) (mem : Memory → SProp 𝓤) (run : Routine → Fun 𝓤) → OneOfMethod 𝓤 view-columns-promise.ended (λ κs r. r) (view-columns-promise.clauses 𝓛 mem run)
view_columns {𝓤 = 𝓤} 𝓛 mem run κs a g x y s t = both_said 𝓤 _ _ (x ≡ y) (λ p q. p ∙ sym q)

pub view_element : {M : Type 1} {𝓤 : Ura M} (𝓛 : Logic 𝓤) (mem : Memory → SProp 𝓤) (run : Routine → Fun 𝓤) → OneOfMethod 𝓤 view-element-promise.ended (λ κs r. r) (view-element-promise.clauses 𝓛 mem run)
view_element {𝓤 = 𝓤} 𝓛 mem run κs a g x y s t = both_said 𝓤 _ _ (x ≡ y) (λ p q. p ∙ sym q)

pub view_bytes : {M : Type 1} {𝓤 : Ura M} (𝓛 : Logic 𝓤) (mem : Memory → SProp 𝓤) (run : Routine → Fun 𝓤) → OneOfMethod 𝓤 view-bytes-promise.ended (λ κs r. r) (view-bytes-promise.clauses 𝓛 mem run)
view_bytes {𝓤 = 𝓤} 𝓛 mem run κs a g x y s t = both_said 𝓤 _ _ (x ≡ y) (λ p q. p ∙ sym q)

pub view_text : {M : Type 1} {𝓤 : Ura M} (𝓛 : Logic 𝓤) (mem : Memory → SProp 𝓤) (run : Routine → Fun 𝓤) → OneOfMethod 𝓤 view-text-promise.ended (λ κs r. r) (view-text-promise.clauses 𝓛 mem run)
view_text {𝓤 = 𝓤} 𝓛 mem run κs a g x y s t = both_said 𝓤 _ _ (x ≡ y) (λ p q. p ∙ sym q)

pub view_new : {M : Type 1} {𝓤 : Ura M} (𝓛 : Logic 𝓤) (mem : Memory → SProp 𝓤) (run : Routine → Fun 𝓤) → OneOfMethod 𝓤 view-new-promise.ended (λ κs r. r) (view-new-promise.clauses 𝓛 mem run)
view_new {𝓤 = 𝓤} 𝓛 mem run κs a g x y s t = both_said 𝓤 _ _ (x ≡ y) (λ p q i. record { payload = (p.0 ∙ sym q.0) i; at = (p.1 ∙ sym q.1) i; type_at = (p.2 ∙ sym q.2) i })

pub view_part : {M : Type 1} {𝓤 : Ura M} (𝓛 : Logic 𝓤) (mem : Memory → SProp 𝓤) (run : Routine → Fun 𝓤) → OneOfMethod 𝓤 view-part-promise.ended (λ κs r. r.now) (view-part-promise.clauses 𝓛 mem run)
view_part {𝓤 = 𝓤} 𝓛 mem run κs a g x y s t = both_said 𝓤 _ _ (x.now ≡ y.now) (λ p q. p ∙ sym q)

-- ---- a group, by the clauses as of a view

pub tagged_item : {M : Type 1} {𝓤 : Ura M} (𝓛 : Logic 𝓤) (mem : Memory → SProp 𝓤) (run : Routine → Fun 𝓤) → OneOfMethod 𝓤 group-tagged-promise.ended (λ κs r. r) (group-tagged-promise.clauses 𝓛 mem run)
tagged_item {𝓤 = 𝓤} 𝓛 mem run κs a g x y s t = both_said 𝓤 _ _ (x ≡ y) (λ p q. p ∙ sym q)

pub orientation_of_group_lem : {M : Type 1} {𝓤 : Ura M} (𝓛 : Logic 𝓤) (mem : Memory → SProp 𝓤) (run : Routine → Fun 𝓤) → OneOfMethod 𝓤 orientation-of-group-promise.ended (λ κs r. r) (orientation-of-group-promise.clauses 𝓛 mem run)
orientation_of_group_lem {𝓤 = 𝓤} 𝓛 mem run κs a g x y s t = both_said 𝓤 _ _ (x ≡ y) (λ p q. p ∙ sym q)

pub scaled_quaternion : {M : Type 1} {𝓤 : Ura M} (𝓛 : Logic 𝓤) (mem : Memory → SProp 𝓤) (run : Routine → Fun 𝓤) → OneOfMethod 𝓤 scaled-quaternion-promise.ended (λ κs r. r) (scaled-quaternion-promise.clauses 𝓛 mem run)
scaled_quaternion {𝓤 = 𝓤} 𝓛 mem run κs a g x y s t = both_said 𝓤 _ _ (x ≡ y) (λ p q. p ∙ sym q)

pub stamp_us : {M : Type 1} {𝓤 : Ura M} (𝓛 : Logic 𝓤) (mem : Memory → SProp 𝓤) (run : Routine → Fun 𝓤) → OneOfMethod 𝓤 stamp-us-promise.ended (λ κs r. r) (stamp-us-promise.clauses 𝓛 mem run)
stamp_us {𝓤 = 𝓤} 𝓛 mem run κs a g x y s t = both_said 𝓤 _ _ (x ≡ y) (λ p q. p ∙ sym q)
