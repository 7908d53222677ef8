-- ONE ANSWER for each function of the library for other languages, as OneAnswer has it for each public call. Assumes nothing.
use Prim.Native.Nat.{ℕ}
use mathlib.Core.Path.{sym, ◌∙◌}
use mathlib.Core.List.{List}
use Rattle.theorems.proofs.OneAnswer.{OneResult, OneAnswer}
use Rattle.gpmf_reading.proofs.reading_face.gpmf_parse_metadata.Kinds as gpmf-parse-metadata-kinds
use Rattle.gpmf_reading.proofs.reading_face.gpmf_parse_metadata.Reads as gpmf-parse-metadata-reads
use Rattle.gpmf_reading.proofs.reading_face.gpmf_last_item.Kinds as gpmf-last-item-kinds
use Rattle.gpmf_reading.proofs.reading_face.gpmf_last_item.Reads as gpmf-last-item-reads
use Rattle.gpmf_reading.proofs.reading_face.gpmf_get_last_klv.Kinds as gpmf-get-last-klv-kinds
use Rattle.gpmf_reading.proofs.reading_face.gpmf_get_last_klv.Reads as gpmf-get-last-klv-reads
use Rattle.gpmf_reading.proofs.reading_face.gpmf_room.Kinds as gpmf-room-kinds
use Rattle.gpmf_reading.proofs.reading_face.gpmf_room.Reads as gpmf-room-reads
use Rattle.gpmf_reading.proofs.reading_face.gpmf_put_row.Kinds as gpmf-put-row-kinds
use Rattle.gpmf_reading.proofs.reading_face.gpmf_put_row.Reads as gpmf-put-row-reads
use Rattle.gpmf_reading.proofs.reading_face.gpmf_row_at.Kinds as gpmf-row-at-kinds
use Rattle.gpmf_reading.proofs.reading_face.gpmf_row_at.Reads as gpmf-row-at-reads
use Rattle.gpmf_reading.proofs.reading_face.gpmf_lookup.Kinds as gpmf-lookup-kinds
use Rattle.gpmf_reading.proofs.reading_face.gpmf_lookup.Reads as gpmf-lookup-reads
use Rattle.gpmf_values.proofs.value_face.gpmf_element.Kinds as gpmf-element-kinds
use Rattle.gpmf_values.proofs.value_face.gpmf_element.Reads as gpmf-element-reads
use Rattle.gpmf_values.proofs.value_face.gpmf_shape_at.Kinds as gpmf-shape-at-kinds
use Rattle.gpmf_values.proofs.value_face.gpmf_shape_at.Reads as gpmf-shape-at-reads
use Rattle.gpmf_values.proofs.value_face.gpmf_columns_at.Kinds as gpmf-columns-at-kinds
use Rattle.gpmf_values.proofs.value_face.gpmf_columns_at.Reads as gpmf-columns-at-reads
use Rattle.gpmf_values.proofs.value_face.gpmf_elements_at.Kinds as gpmf-elements-at-kinds
use Rattle.gpmf_values.proofs.value_face.gpmf_elements_at.Reads as gpmf-elements-at-reads
use Rattle.gpmf_values.proofs.value_face.gpmf_klv_at.Kinds as gpmf-klv-at-kinds
use Rattle.gpmf_values.proofs.value_face.gpmf_klv_at.Reads as gpmf-klv-at-reads
use Rattle.gpmf_values.proofs.value_face.gpmf_bytes_at.Kinds as gpmf-bytes-at-kinds
use Rattle.gpmf_values.proofs.value_face.gpmf_bytes_at.Reads as gpmf-bytes-at-reads
use Rattle.gpmf_values.proofs.value_face.gpmf_text_at.Kinds as gpmf-text-at-kinds
use Rattle.gpmf_values.proofs.value_face.gpmf_text_at.Reads as gpmf-text-at-reads
use Rattle.gpmf_basics.proofs.item_face.gpmf_big_endian.Kinds as gpmf-big-endian-kinds
use Rattle.gpmf_basics.proofs.item_face.gpmf_big_endian.Reads as gpmf-big-endian-reads
use Rattle.gpmf_basics.proofs.item_face.gpmf_tag_id.Kinds as gpmf-tag-id-kinds
use Rattle.gpmf_basics.proofs.item_face.gpmf_tag_id.Reads as gpmf-tag-id-reads
use Rattle.gpmf_basics.proofs.item_face.gpmf_group_from_key.Kinds as gpmf-group-from-key-kinds
use Rattle.gpmf_basics.proofs.item_face.gpmf_group_from_key.Reads as gpmf-group-from-key-reads
use Rattle.gpmf_basics.proofs.item_face.gpmf_cursor_new.Kinds as gpmf-cursor-new-kinds
use Rattle.gpmf_basics.proofs.item_face.gpmf_cursor_new.Reads as gpmf-cursor-new-reads
use Rattle.gpmf_basics.proofs.item_face.gpmf_parse_header.Kinds as gpmf-parse-header-kinds
use Rattle.gpmf_basics.proofs.item_face.gpmf_parse_header.Reads as gpmf-parse-header-reads
use Rattle.gpmf_basics.proofs.item_face.gpmf_data_len.Kinds as gpmf-data-len-kinds
use Rattle.gpmf_basics.proofs.item_face.gpmf_data_len.Reads as gpmf-data-len-reads
use Rattle.gpmf_basics.proofs.item_face.gpmf_aligned_data_len.Kinds as gpmf-aligned-data-len-kinds
use Rattle.gpmf_basics.proofs.item_face.gpmf_aligned_data_len.Reads as gpmf-aligned-data-len-reads
use Rattle.gpmf_basics.proofs.item_face.gpmf_is_one_text.Kinds as gpmf-is-one-text-kinds
use Rattle.gpmf_basics.proofs.item_face.gpmf_is_one_text.Reads as gpmf-is-one-text-reads
use Rattle.gpmf_basics.proofs.item_face.gpmf_is_type_text.Kinds as gpmf-is-type-text-kinds
use Rattle.gpmf_basics.proofs.item_face.gpmf_is_type_text.Reads as gpmf-is-type-text-reads
use Rattle.gpmf_basics.proofs.number_face.gpmf_q15_16.Kinds as gpmf-q15-16-kinds
use Rattle.gpmf_basics.proofs.number_face.gpmf_q15_16.Reads as gpmf-q15-16-reads
use Rattle.gpmf_basics.proofs.number_face.gpmf_q31_32.Kinds as gpmf-q31-32-kinds
use Rattle.gpmf_basics.proofs.number_face.gpmf_q31_32.Reads as gpmf-q31-32-reads
use Rattle.gpmf_basics.proofs.number_face.gpmf_q31_32_exact.Kinds as gpmf-q31-32-exact-kinds
use Rattle.gpmf_basics.proofs.number_face.gpmf_q31_32_exact.Reads as gpmf-q31-32-exact-reads
use Rattle.gpmf_basics.proofs.number_face.gpmf_width.Kinds as gpmf-width-kinds
use Rattle.gpmf_basics.proofs.number_face.gpmf_width.Reads as gpmf-width-reads
use Rattle.gpmf_basics.proofs.number_face.gpmf_element_at.Kinds as gpmf-element-at-kinds
use Rattle.gpmf_basics.proofs.number_face.gpmf_element_at.Reads as gpmf-element-at-reads
use Rattle.gpmf_basics.proofs.number_face.gpmf_exact_at.Kinds as gpmf-exact-at-kinds
use Rattle.gpmf_basics.proofs.number_face.gpmf_exact_at.Reads as gpmf-exact-at-reads
use Rattle.gpmf_basics.proofs.number_face.gpmf_single_bits.Kinds as gpmf-single-bits-kinds
use Rattle.gpmf_basics.proofs.number_face.gpmf_single_bits.Reads as gpmf-single-bits-reads
use Rattle.gpmf_basics.proofs.number_face.gpmf_double_bits.Kinds as gpmf-double-bits-kinds
use Rattle.gpmf_basics.proofs.number_face.gpmf_double_bits.Reads as gpmf-double-bits-reads
use Rattle.gpmf_basics.proofs.text_face.gpmf_resolve_custom_type.Kinds as gpmf-resolve-custom-type-kinds
use Rattle.gpmf_basics.proofs.text_face.gpmf_resolve_custom_type.Reads as gpmf-resolve-custom-type-reads
use Rattle.gpmf_basics.proofs.text_face.gpmf_latin1_len.Kinds as gpmf-latin1-len-kinds
use Rattle.gpmf_basics.proofs.text_face.gpmf_latin1_len.Reads as gpmf-latin1-len-reads
use Rattle.gpmf_basics.proofs.text_face.gpmf_utf8_len.Kinds as gpmf-utf8-len-kinds
use Rattle.gpmf_basics.proofs.text_face.gpmf_utf8_len.Reads as gpmf-utf8-len-reads
use Rattle.gpmf_basics.proofs.text_face.gpmf_is_utf8.Kinds as gpmf-is-utf8-kinds
use Rattle.gpmf_basics.proofs.text_face.gpmf_is_utf8.Reads as gpmf-is-utf8-reads
use Rattle.gpmf_basics.proofs.text_face.gpmf_are_utf8.Kinds as gpmf-are-utf8-kinds
use Rattle.gpmf_basics.proofs.text_face.gpmf_are_utf8.Reads as gpmf-are-utf8-reads
use Rattle.gpmf_basics.proofs.text_face.gpmf_parse_utcdate.Kinds as gpmf-parse-utcdate-kinds
use Rattle.gpmf_basics.proofs.text_face.gpmf_parse_utcdate.Reads as gpmf-parse-utcdate-reads
use Rattle.gpmf_values.proofs.group_face.gpmf_tagged_item.Kinds as gpmf-tagged-item-kinds
use Rattle.gpmf_values.proofs.group_face.gpmf_tagged_item.Reads as gpmf-tagged-item-reads
use Rattle.gpmf_values.proofs.group_face.gpmf_is_one_number.Kinds as gpmf-is-one-number-kinds
use Rattle.gpmf_values.proofs.group_face.gpmf_is_one_number.Reads as gpmf-is-one-number-reads
use Rattle.gpmf_values.proofs.group_face.gpmf_negated.Kinds as gpmf-negated-kinds
use Rattle.gpmf_values.proofs.group_face.gpmf_negated.Reads as gpmf-negated-reads
use Rattle.gpmf_values.proofs.group_face.gpmf_scaled.Kinds as gpmf-scaled-kinds
use Rattle.gpmf_values.proofs.group_face.gpmf_scaled.Reads as gpmf-scaled-reads
use Rattle.gpmf_values.proofs.group_face.gpmf_scaled_quaternion.Kinds as gpmf-scaled-quaternion-kinds
use Rattle.gpmf_values.proofs.group_face.gpmf_scaled_quaternion.Reads as gpmf-scaled-quaternion-reads
use Rattle.gpmf_values.proofs.group_face.gpmf_stamp_us.Kinds as gpmf-stamp-us-kinds
use Rattle.gpmf_values.proofs.group_face.gpmf_stamp_us.Reads as gpmf-stamp-us-reads
use Rattle.gpmf_values.proofs.group_face.gpmf_get_avg_sample_duration.Kinds as gpmf-get-avg-sample-duration-kinds
use Rattle.gpmf_values.proofs.group_face.gpmf_get_avg_sample_duration.Reads as gpmf-get-avg-sample-duration-reads
use Rattle.gpmf_values.proofs.axes_face.gpmf_orientations_of.Kinds as gpmf-orientations-of-kinds
use Rattle.gpmf_values.proofs.axes_face.gpmf_orientations_of.Reads as gpmf-orientations-of-reads
use Rattle.gpmf_values.proofs.axes_face.gpmf_orientations_to_matrix.Kinds as gpmf-orientations-to-matrix-kinds
use Rattle.gpmf_values.proofs.axes_face.gpmf_orientations_to_matrix.Reads as gpmf-orientations-to-matrix-reads
use Rattle.gpmf_values.proofs.axes_face.gpmf_matrix_to_orientation.Kinds as gpmf-matrix-to-orientation-kinds
use Rattle.gpmf_values.proofs.axes_face.gpmf_matrix_to_orientation.Reads as gpmf-matrix-to-orientation-reads
use Rattle.gpmf_values.proofs.axes_face.gpmf_mtrx_to_orientation.Kinds as gpmf-mtrx-to-orientation-kinds
use Rattle.gpmf_values.proofs.axes_face.gpmf_mtrx_to_orientation.Reads as gpmf-mtrx-to-orientation-reads
use Rattle.gpmf_values.proofs.axes_face.gpmf_orientation_of_group.Kinds as gpmf-orientation-of-group-kinds
use Rattle.gpmf_values.proofs.axes_face.gpmf_orientation_of_group.Reads as gpmf-orientation-of-group-reads
use Rattle.gpmf_reading.proofs.packet_face.gpmf_find_devc.Kinds as gpmf-find-devc-kinds
use Rattle.gpmf_reading.proofs.packet_face.gpmf_find_devc.Reads as gpmf-find-devc-reads
use Rattle.gpmf_reading.proofs.packet_face.gpmf_packets_new.Kinds as gpmf-packets-new-kinds
use Rattle.gpmf_reading.proofs.packet_face.gpmf_packets_new.Reads as gpmf-packets-new-reads
use Rattle.gpmf_reading.proofs.packet_face.gpmf_packets_next.Kinds as gpmf-packets-next-kinds
use Rattle.gpmf_reading.proofs.packet_face.gpmf_packets_next.Reads as gpmf-packets-next-reads
use Rattle.gpmf_reading.proofs.packet_face.gpmf_packets_next_in.Kinds as gpmf-packets-next-in-kinds
use Rattle.gpmf_reading.proofs.packet_face.gpmf_packets_next_in.Reads as gpmf-packets-next-in-reads
use Rattle.gpmf_reading.proofs.packet_face.gpmf_next_metadata.Kinds as gpmf-next-metadata-kinds
use Rattle.gpmf_reading.proofs.packet_face.gpmf_next_metadata.Reads as gpmf-next-metadata-reads
use Rattle.gpmf_reading.proofs.packet_face.gpmf_next_metadata_in.Kinds as gpmf-next-metadata-in-kinds
use Rattle.gpmf_reading.proofs.packet_face.gpmf_next_metadata_in.Reads as gpmf-next-metadata-in-reads
use Rattle.gpmf_basics.proofs.print_face.gpmf_put.Kinds as gpmf-put-kinds
use Rattle.gpmf_basics.proofs.print_face.gpmf_put.Reads as gpmf-put-reads
use Rattle.gpmf_basics.proofs.print_face.gpmf_put_bytes.Kinds as gpmf-put-bytes-kinds
use Rattle.gpmf_basics.proofs.print_face.gpmf_put_bytes.Reads as gpmf-put-bytes-reads
use Rattle.gpmf_basics.proofs.print_face.gpmf_put_decimal.Kinds as gpmf-put-decimal-kinds
use Rattle.gpmf_basics.proofs.print_face.gpmf_put_decimal.Reads as gpmf-put-decimal-reads
use Rattle.gpmf_basics.proofs.print_face.gpmf_put_hex.Kinds as gpmf-put-hex-kinds
use Rattle.gpmf_basics.proofs.print_face.gpmf_put_hex.Reads as gpmf-put-hex-reads
use Rattle.gpmf_basics.proofs.print_face.gpmf_put_signed.Kinds as gpmf-put-signed-kinds
use Rattle.gpmf_basics.proofs.print_face.gpmf_put_signed.Reads as gpmf-put-signed-reads
use Rattle.gpmf_basics.proofs.print_face.gpmf_pieces.Kinds as gpmf-pieces-kinds
use Rattle.gpmf_basics.proofs.print_face.gpmf_pieces.Reads as gpmf-pieces-reads
use Rattle.gpmf_basics.proofs.print_face.gpmf_decimal_number.Kinds as gpmf-decimal-number-kinds
use Rattle.gpmf_basics.proofs.print_face.gpmf_decimal_number.Reads as gpmf-decimal-number-reads
use Rattle.gpmf_basics.proofs.print_face.gpmf_hex_number.Kinds as gpmf-hex-number-kinds
use Rattle.gpmf_basics.proofs.print_face.gpmf_hex_number.Reads as gpmf-hex-number-reads
use Rattle.gpmf_basics.proofs.print_face.gpmf_unhex.Kinds as gpmf-unhex-kinds
use Rattle.gpmf_basics.proofs.print_face.gpmf_unhex.Reads as gpmf-unhex-reads
use Rattle.gpmf_reading.proofs.listing_face.gpmf_list.Kinds as gpmf-list-kinds
use Rattle.gpmf_reading.proofs.listing_face.gpmf_list.Reads as gpmf-list-reads
use Rattle.gpmf_reading.proofs.listing_face.gpmf_put_answer.Kinds as gpmf-put-answer-kinds
use Rattle.gpmf_reading.proofs.listing_face.gpmf_put_answer.Reads as gpmf-put-answer-reads
use Rattle.gpmf_reading.proofs.listing_face.gpmf_put_rows.Kinds as gpmf-put-rows-kinds
use Rattle.gpmf_reading.proofs.listing_face.gpmf_put_rows.Reads as gpmf-put-rows-reads
use Rattle.gpmf_reading.proofs.listing_face.gpmf_put_packet.Kinds as gpmf-put-packet-kinds
use Rattle.gpmf_reading.proofs.listing_face.gpmf_put_packet.Reads as gpmf-put-packet-reads
use Rattle.gpmf_reading.proofs.listing_face.gpmf_put_long_packet.Kinds as gpmf-put-long-packet-kinds
use Rattle.gpmf_reading.proofs.listing_face.gpmf_put_long_packet.Reads as gpmf-put-long-packet-reads
use Rattle.gpmf_reading.proofs.listing_face.gpmf_put_totals.Kinds as gpmf-put-totals-kinds
use Rattle.gpmf_reading.proofs.listing_face.gpmf_put_totals.Reads as gpmf-put-totals-reads

pub gpmf_parse_metadata : OneAnswer 2 gpmf-parse-metadata-kinds.ps gpmf-parse-metadata-kinds.r gpmf-parse-metadata-reads.Learnt (λ κs s. s.1.1.0.now)
gpmf_parse_metadata κs a x y s t p q = (p.is ∙ sym q.is, p.rows ∙ sym q.rows)

pub gpmf_last_item : OneResult 1 gpmf-last-item-kinds.ps gpmf-last-item-kinds.r gpmf-last-item-reads.Learnt
gpmf_last_item κs a x y s t p q = p ∙ sym q

pub gpmf_get_last_klv : OneResult 1 gpmf-get-last-klv-kinds.ps gpmf-get-last-klv-kinds.r gpmf-get-last-klv-reads.Learnt
gpmf_get_last_klv κs a x y s t p q = p ∙ sym q

pub gpmf_room : OneResult 0 gpmf-room-kinds.ps gpmf-room-kinds.r gpmf-room-reads.Learnt
gpmf_room κs a x y s t p q = p ∙ sym q

pub gpmf_put_row : OneAnswer 1 gpmf-put-row-kinds.ps gpmf-put-row-kinds.r gpmf-put-row-reads.Learnt (λ κs s. s.0.now)
gpmf_put_row κs a x y s t p q = (p.is ∙ sym q.is, p.numbers ∙ sym q.numbers)

pub gpmf_row_at : OneResult 1 gpmf-row-at-kinds.ps gpmf-row-at-kinds.r gpmf-row-at-reads.Learnt
gpmf_row_at κs a x y s t p q = p ∙ sym q

pub gpmf_lookup : OneResult 1 gpmf-lookup-kinds.ps gpmf-lookup-kinds.r gpmf-lookup-reads.Learnt
gpmf_lookup κs a x y s t p q = p ∙ sym q

pub gpmf_element : OneResult 1 gpmf-element-kinds.ps gpmf-element-kinds.r gpmf-element-reads.Learnt
gpmf_element κs a x y s t p q = p ∙ sym q

pub gpmf_shape_at : OneResult 1 gpmf-shape-at-kinds.ps gpmf-shape-at-kinds.r gpmf-shape-at-reads.Learnt
gpmf_shape_at κs a x y s t p q = p ∙ sym q

pub gpmf_columns_at : OneResult 1 gpmf-columns-at-kinds.ps gpmf-columns-at-kinds.r gpmf-columns-at-reads.Learnt
gpmf_columns_at κs a x y s t p q = p ∙ sym q

pub gpmf_elements_at : OneAnswer 2 gpmf-elements-at-kinds.ps gpmf-elements-at-kinds.r gpmf-elements-at-reads.Learnt (λ κs s. s.1.1.1.0.now)
gpmf_elements_at κs a x y s t p q = (p.is ∙ sym q.is, p.numbers ∙ sym q.numbers)

pub gpmf_klv_at : OneResult 1 gpmf-klv-at-kinds.ps gpmf-klv-at-kinds.r gpmf-klv-at-reads.Learnt
gpmf_klv_at κs a x y s t p q = p ∙ sym q

pub gpmf_bytes_at : OneResult 1 gpmf-bytes-at-kinds.ps gpmf-bytes-at-kinds.r gpmf-bytes-at-reads.Learnt
gpmf_bytes_at κs a x y s t p q = p ∙ sym q

pub gpmf_text_at : OneResult 1 gpmf-text-at-kinds.ps gpmf-text-at-kinds.r gpmf-text-at-reads.Learnt
gpmf_text_at κs a x y s t p q = p ∙ sym q

pub gpmf_big_endian : OneResult 1 gpmf-big-endian-kinds.ps gpmf-big-endian-kinds.r gpmf-big-endian-reads.Learnt
gpmf_big_endian κs a x y s t p q = p ∙ sym q

pub gpmf_tag_id : OneResult 0 gpmf-tag-id-kinds.ps gpmf-tag-id-kinds.r gpmf-tag-id-reads.Learnt
gpmf_tag_id κs a x y s t p q = p ∙ sym q

pub gpmf_group_from_key : OneResult 0 gpmf-group-from-key-kinds.ps gpmf-group-from-key-kinds.r gpmf-group-from-key-reads.Learnt
gpmf_group_from_key κs a x y s t p q = p ∙ sym q

pub gpmf_cursor_new : OneResult 0 gpmf-cursor-new-kinds.ps gpmf-cursor-new-kinds.r gpmf-cursor-new-reads.Learnt
gpmf_cursor_new κs a x y s t p q = λ i. record { at = (p ∙ sym q) i }

pub gpmf_parse_header : OneResult 1 gpmf-parse-header-kinds.ps gpmf-parse-header-kinds.r gpmf-parse-header-reads.Learnt
gpmf_parse_header κs a x y s t p q = p ∙ sym q

pub gpmf_data_len : OneResult 0 gpmf-data-len-kinds.ps gpmf-data-len-kinds.r gpmf-data-len-reads.Learnt
gpmf_data_len κs a x y s t p q = p.0 ∙ sym q.0

pub gpmf_aligned_data_len : OneResult 0 gpmf-aligned-data-len-kinds.ps gpmf-aligned-data-len-kinds.r gpmf-aligned-data-len-reads.Learnt
gpmf_aligned_data_len κs a x y s t p q = p.0 ∙ sym q.0

pub gpmf_is_one_text : OneResult 0 gpmf-is-one-text-kinds.ps gpmf-is-one-text-kinds.r gpmf-is-one-text-reads.Learnt
gpmf_is_one_text κs a x y s t p q = p ∙ sym q

pub gpmf_is_type_text : OneResult 0 gpmf-is-type-text-kinds.ps gpmf-is-type-text-kinds.r gpmf-is-type-text-reads.Learnt
gpmf_is_type_text κs a x y s t p q = p ∙ sym q

pub gpmf_q15_16 : OneResult 0 gpmf-q15-16-kinds.ps gpmf-q15-16-kinds.r gpmf-q15-16-reads.Learnt
gpmf_q15_16 κs a x y s t p q = p ∙ sym q

pub gpmf_q31_32 : OneResult 0 gpmf-q31-32-kinds.ps gpmf-q31-32-kinds.r gpmf-q31-32-reads.Learnt
gpmf_q31_32 κs a x y s t p q = p ∙ sym q

pub gpmf_q31_32_exact : OneResult 0 gpmf-q31-32-exact-kinds.ps gpmf-q31-32-exact-kinds.r gpmf-q31-32-exact-reads.Learnt
gpmf_q31_32_exact κs a x y s t p q = p ∙ sym q

pub gpmf_width : OneResult 0 gpmf-width-kinds.ps gpmf-width-kinds.r gpmf-width-reads.Learnt
gpmf_width κs a x y s t p q = p.0 ∙ sym q.0

pub gpmf_element_at : OneResult 1 gpmf-element-at-kinds.ps gpmf-element-at-kinds.r gpmf-element-at-reads.Learnt
gpmf_element_at κs a x y s t p q = p ∙ sym q

pub gpmf_exact_at : OneResult 1 gpmf-exact-at-kinds.ps gpmf-exact-at-kinds.r gpmf-exact-at-reads.Learnt
gpmf_exact_at κs a x y s t p q = p ∙ sym q

pub gpmf_single_bits : OneResult 0 gpmf-single-bits-kinds.ps gpmf-single-bits-kinds.r gpmf-single-bits-reads.Learnt
gpmf_single_bits κs a x y s t p q = p ∙ sym q

pub gpmf_double_bits : OneResult 0 gpmf-double-bits-kinds.ps gpmf-double-bits-kinds.r gpmf-double-bits-reads.Learnt
gpmf_double_bits κs a x y s t p q = p ∙ sym q

pub gpmf_resolve_custom_type : OneAnswer 2 gpmf-resolve-custom-type-kinds.ps gpmf-resolve-custom-type-kinds.r gpmf-resolve-custom-type-reads.Learnt (λ κs s. s.1.0.now)
gpmf_resolve_custom_type κs a x y s t p q = (p.is ∙ sym q.is, p.out ∙ sym q.out)

pub gpmf_latin1_len : OneResult 1 gpmf-latin1-len-kinds.ps gpmf-latin1-len-kinds.r gpmf-latin1-len-reads.Learnt
gpmf_latin1_len κs a x y s t p q = p ∙ sym q

pub gpmf_utf8_len : OneResult 1 gpmf-utf8-len-kinds.ps gpmf-utf8-len-kinds.r gpmf-utf8-len-reads.Learnt
gpmf_utf8_len κs a x y s t p q = p ∙ sym q

pub gpmf_is_utf8 : OneResult 1 gpmf-is-utf8-kinds.ps gpmf-is-utf8-kinds.r gpmf-is-utf8-reads.Learnt
gpmf_is_utf8 κs a x y s t p q = p ∙ sym q

pub gpmf_are_utf8 : OneResult 1 gpmf-are-utf8-kinds.ps gpmf-are-utf8-kinds.r gpmf-are-utf8-reads.Learnt
gpmf_are_utf8 κs a x y s t p q = p ∙ sym q

pub gpmf_parse_utcdate : OneResult 1 gpmf-parse-utcdate-kinds.ps gpmf-parse-utcdate-kinds.r gpmf-parse-utcdate-reads.Learnt
gpmf_parse_utcdate κs a x y s t p q = p ∙ sym q

pub gpmf_tagged_item : OneResult 2 gpmf-tagged-item-kinds.ps gpmf-tagged-item-kinds.r gpmf-tagged-item-reads.Learnt
gpmf_tagged_item κs a x y s t p q = p ∙ sym q

pub gpmf_is_one_number : OneResult 0 gpmf-is-one-number-kinds.ps gpmf-is-one-number-kinds.r gpmf-is-one-number-reads.Learnt
gpmf_is_one_number κs a x y s t p q = p ∙ sym q

pub gpmf_negated : OneResult 0 gpmf-negated-kinds.ps gpmf-negated-kinds.r gpmf-negated-reads.Learnt
gpmf_negated κs a x y s t p q = p ∙ sym q

pub gpmf_scaled : OneResult 0 gpmf-scaled-kinds.ps gpmf-scaled-kinds.r gpmf-scaled-reads.Learnt
gpmf_scaled κs a x y s t p q = p ∙ sym q

pub gpmf_scaled_quaternion : OneResult 2 gpmf-scaled-quaternion-kinds.ps gpmf-scaled-quaternion-kinds.r gpmf-scaled-quaternion-reads.Learnt
gpmf_scaled_quaternion κs a x y s t p q = p ∙ sym q

pub gpmf_stamp_us : OneResult 2 gpmf-stamp-us-kinds.ps gpmf-stamp-us-kinds.r gpmf-stamp-us-reads.Learnt
gpmf_stamp_us κs a x y s t p q = p ∙ sym q

pub gpmf_get_avg_sample_duration : OneResult 5 gpmf-get-avg-sample-duration-kinds.ps gpmf-get-avg-sample-duration-kinds.r gpmf-get-avg-sample-duration-reads.Learnt
gpmf_get_avg_sample_duration κs a x y s t p q = p ∙ sym q

pub gpmf_orientations_of : OneResult 2 gpmf-orientations-of-kinds.ps gpmf-orientations-of-kinds.r gpmf-orientations-of-reads.Learnt
gpmf_orientations_of κs a x y s t p q = p ∙ sym q

pub gpmf_orientations_to_matrix : OneResult 0 gpmf-orientations-to-matrix-kinds.ps gpmf-orientations-to-matrix-kinds.r gpmf-orientations-to-matrix-reads.Learnt
gpmf_orientations_to_matrix κs a x y s t p q = p ∙ sym q

pub gpmf_matrix_to_orientation : OneResult 0 gpmf-matrix-to-orientation-kinds.ps gpmf-matrix-to-orientation-kinds.r gpmf-matrix-to-orientation-reads.Learnt
gpmf_matrix_to_orientation κs a x y s t p q = p ∙ sym q

pub gpmf_mtrx_to_orientation : OneResult 1 gpmf-mtrx-to-orientation-kinds.ps gpmf-mtrx-to-orientation-kinds.r gpmf-mtrx-to-orientation-reads.Learnt
gpmf_mtrx_to_orientation κs a x y s t p q = p ∙ sym q

pub gpmf_orientation_of_group : OneResult 2 gpmf-orientation-of-group-kinds.ps gpmf-orientation-of-group-kinds.r gpmf-orientation-of-group-reads.Learnt
gpmf_orientation_of_group κs a x y s t p q = p ∙ sym q

pub gpmf_find_devc : OneResult 1 gpmf-find-devc-kinds.ps gpmf-find-devc-kinds.r gpmf-find-devc-reads.Learnt
gpmf_find_devc κs a x y s t p q = p ∙ sym q

pub gpmf_packets_new : OneResult 0 gpmf-packets-new-kinds.ps gpmf-packets-new-kinds.r gpmf-packets-new-reads.Learnt
gpmf_packets_new κs a x y s t p q = λ i. record { at = (p ∙ sym q) i }

pub gpmf_packets_next : OneResult 1 gpmf-packets-next-kinds.ps gpmf-packets-next-kinds.r gpmf-packets-next-reads.Learnt
gpmf_packets_next κs a x y s t p q = p ∙ sym q

pub gpmf_packets_next_in : OneResult 1 gpmf-packets-next-in-kinds.ps gpmf-packets-next-in-kinds.r gpmf-packets-next-in-reads.Learnt
gpmf_packets_next_in κs a x y s t p q = p ∙ sym q

pub gpmf_next_metadata : OneAnswer 2 gpmf-next-metadata-kinds.ps gpmf-next-metadata-kinds.r gpmf-next-metadata-reads.Learnt (λ κs s. s.1.1.1.0.now)
gpmf_next_metadata κs a x y s t p q = (p.is ∙ sym q.is, p.rows ∙ sym q.rows)

pub gpmf_next_metadata_in : OneAnswer 2 gpmf-next-metadata-in-kinds.ps gpmf-next-metadata-in-kinds.r gpmf-next-metadata-in-reads.Learnt (λ κs s. s.1.1.1.1.0.now)
gpmf_next_metadata_in κs a x y s t p q = (p.is ∙ sym q.is, p.rows ∙ sym q.rows)

pub gpmf_put : OneAnswer 1 gpmf-put-kinds.ps gpmf-put-kinds.r gpmf-put-reads.Learnt (λ κs s. s.0.now)
gpmf_put κs a x y s t p q = (p.is ∙ sym q.is, p.leaves ∙ sym q.leaves)

pub gpmf_put_bytes : OneAnswer 2 gpmf-put-bytes-kinds.ps gpmf-put-bytes-kinds.r gpmf-put-bytes-reads.Learnt (λ κs s. s.0.now)
gpmf_put_bytes κs a x y s t p q = (p.is ∙ sym q.is, p.leaves ∙ sym q.leaves)

pub gpmf_put_decimal : OneAnswer 1 gpmf-put-decimal-kinds.ps gpmf-put-decimal-kinds.r gpmf-put-decimal-reads.Learnt (λ κs s. s.0.now)
gpmf_put_decimal κs a x y s t p q = (p.is ∙ sym q.is, p.leaves ∙ sym q.leaves)

pub gpmf_put_hex : OneAnswer 1 gpmf-put-hex-kinds.ps gpmf-put-hex-kinds.r gpmf-put-hex-reads.Learnt (λ κs s. s.0.now)
gpmf_put_hex κs a x y s t p q = (p.is ∙ sym q.is, p.leaves ∙ sym q.leaves)

pub gpmf_put_signed : OneAnswer 1 gpmf-put-signed-kinds.ps gpmf-put-signed-kinds.r gpmf-put-signed-reads.Learnt (λ κs s. s.0.now)
gpmf_put_signed κs a x y s t p q = (p.is ∙ sym q.is, p.leaves ∙ sym q.leaves)

pub gpmf_pieces : OneResult 1 gpmf-pieces-kinds.ps gpmf-pieces-kinds.r gpmf-pieces-reads.Learnt
gpmf_pieces κs a x y s t p q = p ∙ sym q

pub gpmf_decimal_number : OneResult 1 gpmf-decimal-number-kinds.ps gpmf-decimal-number-kinds.r gpmf-decimal-number-reads.Learnt
gpmf_decimal_number κs a x y s t p q = p ∙ sym q

pub gpmf_hex_number : OneResult 1 gpmf-hex-number-kinds.ps gpmf-hex-number-kinds.r gpmf-hex-number-reads.Learnt
gpmf_hex_number κs a x y s t p q = p ∙ sym q

pub gpmf_unhex : OneAnswer 2 gpmf-unhex-kinds.ps gpmf-unhex-kinds.r gpmf-unhex-reads.Learnt (λ κs s. s.1.0.now)
gpmf_unhex κs a x y s t p q = (p.is ∙ sym q.is, p.leaves ∙ sym q.leaves)

pub gpmf_list : OneAnswer {B = List ℕ × List ℕ} 3 gpmf-list-kinds.ps gpmf-list-kinds.r gpmf-list-reads.Learnt (λ κs s. (s.1.0.now, s.1.1.0.now))
gpmf_list κs a x y s t p q = (p.is ∙ sym q.is, λ i. ((p.rows ∙ sym q.rows) i, (p.leaves ∙ sym q.leaves) i))

pub gpmf_put_answer : OneAnswer 1 gpmf-put-answer-kinds.ps gpmf-put-answer-kinds.r gpmf-put-answer-reads.Learnt (λ κs s. s.0.now)
gpmf_put_answer κs a x y s t p q = (p.is ∙ sym q.is, p.leaves ∙ sym q.leaves)

pub gpmf_put_rows : OneAnswer 2 gpmf-put-rows-kinds.ps gpmf-put-rows-kinds.r gpmf-put-rows-reads.Learnt (λ κs s. s.0.now)
gpmf_put_rows κs a x y s t p q = (p.is ∙ sym q.is, p.leaves ∙ sym q.leaves)

pub gpmf_put_packet : OneAnswer {B = List ℕ × List ℕ} 3 gpmf-put-packet-kinds.ps gpmf-put-packet-kinds.r gpmf-put-packet-reads.Learnt (λ κs s. (s.1.1.1.1.0.now, s.1.1.1.1.1.0.now))
gpmf_put_packet κs a x y s t p q = (
  λ i. record { end = (p.lays.is ∙ sym q.lays.is) i; accepted = (p.is ∙ sym q.is) i },
  λ i. ((p.rows ∙ sym q.rows) i, (p.lays.leaves ∙ sym q.lays.leaves) i),
)

pub gpmf_put_long_packet : OneAnswer 1 gpmf-put-long-packet-kinds.ps gpmf-put-long-packet-kinds.r gpmf-put-long-packet-reads.Learnt (λ κs s. s.1.1.1.1.0.now)
gpmf_put_long_packet κs a x y s t p q = (p.is ∙ sym q.is, p.leaves ∙ sym q.leaves)

pub gpmf_put_totals : OneAnswer 1 gpmf-put-totals-kinds.ps gpmf-put-totals-kinds.r gpmf-put-totals-reads.Learnt (λ κs s. s.0.now)
gpmf_put_totals κs a x y s t p q = (p.is ∙ sym q.is, p.leaves ∙ sym q.leaves)
